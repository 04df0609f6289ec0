use Rattle.std.proofs.Common.{arith}
use Rattle.calendar_values.specs.SignedArith.{signed_arith}
use Rattle.offset_times.specs.Carries.{carried_hour, days_carried}
use Rattle.offset_times.proofs.carries.carried_hour.Goals as goal

pub returns-clause-hour : goal.returns-clause-hour
unfolding carried_hour
returns-clause-hour c = omega (arith, signed_arith)

pub returns-clause-days : goal.returns-clause-days
unfolding days_carried
returns-clause-days c = omega (arith, signed_arith)

pub carry_day-requires-clause-from : goal.carry_day-requires-clause-from
carry_day-requires-clause-from c = omega (arith, signed_arith, c.whole_hours.ensures.in_range)

pub carry_day-requires-clause-to : goal.carry_day-requires-clause-to
carry_day-requires-clause-to c = omega (arith, signed_arith, c.whole_hours-2.ensures.in_range)

pub carry_day-requires-clause-carried : goal.carry_day-requires-clause-carried
carry_day-requires-clause-carried c = omega (arith, signed_arith)
