-- How large instants are.
use Rattle.std.proofs.Common.{◌≡◌, ◌<◌, ◌^◌, arith, ℤ, unsigned_abs}
use Rattle.calendar_values.specs.SignedArith.{signed_arith, one_part}
use Rattle.offset_times.specs.Local.{Local, IsLocal, instant_of}

-- an instant of the range has fewer than 24 digits in nanoseconds
pub instant_below : (at : Local) (n : ℤ) → n ≡ instant_of at → IsLocal at → unsigned_abs n < 10 ^ 23
unfolding instant_of
instant_below at n e h = omega (arith, signed_arith, e, one_part n, one_part at.wall, one_part at.offset, h.0.0, h.0.1, h.1.0, h.1.1)
