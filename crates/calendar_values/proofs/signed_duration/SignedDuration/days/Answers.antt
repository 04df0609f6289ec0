use Rattle.std.proofs.Common.{arith}
use Rattle.calendar_values.specs.Durations.{whole_days_of}
use Rattle.calendar_values.specs.SignedArith.{signed_arith, one_part}
use Rattle.calendar_values.proofs.DurationLemmas.{unwrapped}
use Rattle.calendar_values.proofs.signed_duration.SignedDuration.days.Goals as goal

pub returns-clause-whole : goal.returns-clause-whole
unfolding whole_days_of
returns-clause-whole c =
    let seconds = unwrapped _ _ _ _ c.checked_mul.ensures c.unwrap.ensures in
    omega (arith, signed_arith, one_part c.args.days, one_part c.seconds.result)
