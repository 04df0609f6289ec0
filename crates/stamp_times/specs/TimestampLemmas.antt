-- An instant and its second and nanosecond determine each other.
use Rattle.std.specs.Prelude.{◌≡◌, ◌<◌, ℕ, ℤ}
use Rattle.std.proofs.Common.{arith}
use Rattle.std.proofs.lemmas.Int.{ints}
use Rattle.calendar_values.specs.Clock.{nanos_per_second}
use Rattle.calendar_values.specs.SignedArith.{signed_arith}
use Rattle.calendar_values.specs.WallClock.{unix_seconds_of, wall_time}
use Rattle.stamp_times.specs.Instants.{instant_of_parts, unix_nanosecond_of}

pub instant_of_parts-of : (i : ℤ) → instant_of_parts (unix_seconds_of i) (unix_nanosecond_of i) ≡ i
unfolding wall_time
instant_of_parts-of i = omega (arith, signed_arith)

pub unix_seconds_of-parts : (s : ℤ) (n : ℕ) → n < nanos_per_second → unix_seconds_of (instant_of_parts s n) ≡ s
unix_seconds_of-parts s n p = omega (arith, signed_arith)

pub unix_nanosecond_of-parts : (s : ℤ) (n : ℕ) → n < nanos_per_second → unix_nanosecond_of (instant_of_parts s n) ≡ n
unfolding wall_time
unix_nanosecond_of-parts s n p = omega (arith, signed_arith)

pub ruleset instant_parts = (ints, instant_of_parts-of)
