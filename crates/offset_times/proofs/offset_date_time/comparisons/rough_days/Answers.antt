use Rattle.std.proofs.Common.{◌≡◌, rules, arith, to_z, of_z, w32}
use Rattle.calendar_values.specs.SignedArith.{signed_casts}
use Rattle.offset_times.proofs.offset_date_time.comparisons.rough_days.Goals as goal

pub returns : goal.returns
returns c =
    let year : to_z w32 (of_z w32 c.args.day.0) ≡ c.args.day.0 = search rules in
    let other : to_z w32 (of_z w32 c.args.other.0) ≡ c.args.other.0 = search rules in
    omega (arith, signed_casts)
