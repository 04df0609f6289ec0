use Rattle.std.proofs.Common.{arith}
use Rattle.calendar_values.specs.SignedArith.{signed_arith}
use Rattle.offset_times.specs.Carries.{carried_minute, hours_carried}
use Rattle.offset_times.proofs.carries.carried_minute.Goals as goal

pub returns-clause-minute : goal.returns-clause-minute
unfolding carried_minute
returns-clause-minute c = omega (arith, signed_arith)

pub returns-clause-hours : goal.returns-clause-hours
unfolding hours_carried
returns-clause-hours c = omega (arith, signed_arith)

pub carry_sixty-requires-clause-from : goal.carry_sixty-requires-clause-from
carry_sixty-requires-clause-from c = omega (arith, signed_arith, c.minutes_past_hour.ensures.in_range)

pub carry_sixty-requires-clause-to : goal.carry_sixty-requires-clause-to
carry_sixty-requires-clause-to c = omega (arith, signed_arith, c.minutes_past_hour-2.ensures.in_range)

pub carry_sixty-requires-clause-carried : goal.carry_sixty-requires-clause-carried
carry_sixty-requires-clause-carried c = omega (arith, signed_arith)
