-- The duration between two instants, by what clocks show and by the seconds between the offsets.
use Rattle.std.proofs.Common.{◌≡◌, arith, ℤ, ◌-ℤ◌, FitsSigned, w32}
use Rattle.calendar_values.specs.Durations.{IsDuration}
use Rattle.calendar_values.specs.SignedArith.{signed_arith}
use Rattle.calendar_values.specs.WallClock.{IsWallClock}
use Rattle.offset_times.specs.Local.{Local, instant_of, offset_nanos}

pub duration_between-is : (a b : Local) (v w walls nanos o : ℤ) → v ≡ a.wall → w ≡ b.wall → walls ≡ v -ℤ w → nanos ≡ offset_nanos o → o ≡ a.offset -ℤ b.offset →
    walls -ℤ nanos ≡ instant_of a -ℤ instant_of b
unfolding instant_of
duration_between-is a b v w walls nanos o e f g h k = omega (arith, signed_arith)

pub IsDuration-apart : (a b : Local) (v w walls nanos o : ℤ) → IsWallClock a.wall → IsWallClock b.wall → v ≡ a.wall → w ≡ b.wall → walls ≡ v -ℤ w →
    nanos ≡ offset_nanos o → FitsSigned w32 o → IsDuration (walls -ℤ nanos)
IsDuration-apart a b v w walls nanos o p q e f g h k = (omega (arith, signed_arith), omega (arith, signed_arith))
