use Rattle.std.proofs.Common.{arith}
use Rattle.calendar_values.specs.SignedArith.{signed_casts}
use Rattle.plain_times.proofs.DaySumLemmas.{Is-same_date, SomeIff-moved}
use Rattle.plain_times.proofs.plain_date_time.PlainDateTime.at_second.Goals as goal

pub returns-then-is_of_day : goal.returns-then-is_of_day
returns-then-is_of_day c =
    let of_day = c.is_of_day.ensures.0 c.if-is_of_day.true in
    Is-same_date _ _ c.args.second c.args.nanosecond _ _ _ c.date.ensures.self_in_range (omega (arith, signed_casts, c.new.ensures, c.date.ensures.value))
    c.time_at-time.ensures (omega (arith, signed_casts, of_day)) (omega (arith, signed_casts, of_day)) (omega (arith, signed_casts, of_day))
    (omega (arith, signed_casts, of_day))

pub returns : goal.returns
returns c =
    SomeIff-moved _ c.args.self c.args.second c.args.nanosecond _ c.with_carry-second.result.0 _ _ _ c.add_days_at.ensures c.time_at.ensures
    (omega (arith, signed_casts, c.days_and_second-days.ensures.value, c.days_and_second-days.ensures.in_range, c.with_carry-second.ensures.near))
    (omega (arith, signed_casts, c.with_carry-second.ensures.value, c.with_carry-second.ensures.in_range, c.with_carry-second.ensures.near))
