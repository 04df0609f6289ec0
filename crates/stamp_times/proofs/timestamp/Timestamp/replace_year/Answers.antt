use Rattle.std.proofs.Common.{to_z-of_z}
use Rattle.plain_times.specs.ReplacementLemmas.{OnDate-shown}
use Rattle.plain_times.specs.Replacements.{with_date}
use Rattle.stamp_times.proofs.OutcomeLemmas.{Gives-accepted, Gives-refused}
use Rattle.stamp_times.proofs.timestamp.Timestamp.replace_year.Goals as goal

pub returns-in-Ok-clause-shown : goal.returns-in-Ok-clause-shown
returns-in-Ok-clause-shown c =
    OnDate-shown _ _ _ _ _ _ (rw (to_z-of_z c.ranges.year, c.date.ensures.value) at c.in-Ok.ensures.shown) c.replace_date.ensures

pub returns-in-Ok-clause-value : goal.returns-in-Ok-clause-value
returns-in-Ok-clause-value c =
    let accepted = rw (to_z-of_z c.ranges.year, c.date.ensures.value) at c.in-Ok.ensures.value in
    rw c.replace_date.ensures.value (Gives-accepted (with_date c.args.self) _ _ accepted)

pub returns-in-Err-clause-value : goal.returns-in-Err-clause-value
returns-in-Err-clause-value c =
    let refused = rw (to_z-of_z c.ranges.year, c.date.ensures.value) at c.in-Err.ensures.value in
    Gives-refused (with_date c.args.self) _ _ refused
