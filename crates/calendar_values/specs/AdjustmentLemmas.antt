-- A duration is its whole days and the rest. The rest is less than a day and has the duration's sign.
use Rattle.std.proofs.Common.{◌≡◌, ℤ, pos, negsuc, int_rem, arith}
use Rattle.std.proofs.lemmas.Int.{ints}
use Rattle.calendar_values.specs.Adjustments.{subday_nanoseconds_of}
use Rattle.calendar_values.specs.Durations.{whole_seconds_of, subsec_nanoseconds_of, duration_of_parts}

-- the rest after the whole days, by the whole seconds and the nanoseconds after them
pub subday_nanoseconds_of-parts : (d : ℤ) → subday_nanoseconds_of d ≡ duration_of_parts (int_rem (whole_seconds_of d) (pos 86_400)) (subsec_nanoseconds_of d)
unfolding subday_nanoseconds_of whole_seconds_of subsec_nanoseconds_of
subday_nanoseconds_of-parts (pos n) = omega (arith, ints)
subday_nanoseconds_of-parts (negsuc n) = omega (arith, ints)
