use Rattle.std.proofs.Common.{to_z-of_z}
use Rattle.plain_times.specs.ReplacementLemmas.{OnDate-shown}
use Rattle.plain_times.proofs.plain_date_time.PlainDateTime.replace_year.Goals as goal

pub returns-in-Ok-clause-shown : goal.returns-in-Ok-clause-shown
returns-in-Ok-clause-shown c =
    OnDate-shown _ _ _ _ _ _ (rw (to_z-of_z c.ranges.year, c.date.ensures.value) at c.in-Ok.ensures.shown) c.replace_date.ensures
