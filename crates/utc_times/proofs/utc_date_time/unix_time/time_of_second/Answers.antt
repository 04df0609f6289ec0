use Rattle.std.proofs.Common.{arith}
use Rattle.calendar_values.specs.SignedArith.{signed_casts}
use Rattle.utc_times.proofs.UnixLemmas.{IsDay-near}
use Rattle.utc_times.proofs.utc_date_time.unix_time.time_of_second.Goals as goal

pub day_and_second-requires-clause-low : goal.day_and_second-requires-clause-low
day_and_second-requires-clause-low c = omega (arith, signed_casts, (IsDay-near c.args.second c.requires.day).0)

pub day_and_second-requires-clause-high : goal.day_and_second-requires-clause-high
day_and_second-requires-clause-high c = omega (arith, signed_casts, (IsDay-near c.args.second c.requires.day).1)

pub returns : goal.returns
returns c = omega (arith, signed_casts, c.day_and_second.ensures.second, c.at_second_of_day.ensures)
