-- The order, the counts of units and the sums of durations, from their seconds and nanoseconds, and what makes a duration.
use Rattle.std.proofs.Common.{◌≡◌, ◌≢◌, ℤ, pos, negsuc, suc, FitsSigned, ◌+ℤ◌, ◌*ℤ◌, ◌<ℤ◌, ◌≤◌, min, unsigned_abs, arith, int_div, Option, Some, None, SomeIff}
use Rattle.std.proofs.Math.Nat.{div-le_self}
use Rattle.std.proofs.lemmas.Int.{fits_signed_from_abs, fits_signed_mul, ints}
use Rattle.std.specs.Ordering.{int_cmp, ordering_then}
use Rattle.calendar_values.specs.DurationPartLemmas.{duration_signs}
use Rattle.calendar_values.specs.Durations.{duration_of_parts, greatest_duration, IsDuration, IsDurationParts, SomeDuration, IsNearestDuration, HasQuotient}
use Rattle.calendar_values.specs.Durations.{whole_seconds_of, whole_minutes_of, whole_hours_of, whole_days_of, whole_weeks_of, subsec_nanoseconds_of}
use Rattle.calendar_values.specs.Durations.{whole_milliseconds_of, whole_microseconds_of, subsec_milliseconds_of, subsec_microseconds_of}
use Rattle.calendar_values.specs.SignedArith.{signed_arith, one_part}
use mir.Syntax.{w128}

-- a duration of fewer seconds is less
pub duration_below : (s t m n : ℤ) → IsDurationParts s m → IsDurationParts t n → s <ℤ t → duration_of_parts s m <ℤ duration_of_parts t n
duration_below s t m n p q lt =
    omega (arith, signed_arith, duration_signs s m p, duration_signs t n q)

-- the parts are compared one after the other
pub int_cmp-duration_of_parts : (s t m n : ℤ) → IsDurationParts s m → IsDurationParts t n →
    ordering_then (int_cmp s t) (int_cmp m n) ≡ int_cmp (duration_of_parts s m) (duration_of_parts t n)
int_cmp-duration_of_parts s t m n p q =
    let below = duration_below s t m n p q in
    let above = duration_below t s n m q p in
    grind (arith, ints)

-- the whole minutes, hours, days and weeks are those of the whole seconds
pub whole_minutes_of-whole_seconds_of : (d : ℤ) → whole_minutes_of d ≡ int_div (whole_seconds_of d) (pos 60)
unfolding whole_minutes_of whole_seconds_of
whole_minutes_of-whole_seconds_of d = omega (arith, signed_arith, one_part d)

pub whole_hours_of-whole_seconds_of : (d : ℤ) → whole_hours_of d ≡ int_div (whole_seconds_of d) (pos 3_600)
unfolding whole_hours_of whole_seconds_of
whole_hours_of-whole_seconds_of d = omega (arith, signed_arith, one_part d)

pub whole_weeks_of-whole_seconds_of : (d : ℤ) → whole_weeks_of d ≡ int_div (whole_seconds_of d) (pos 604_800)
unfolding whole_weeks_of whole_seconds_of
whole_weeks_of-whole_seconds_of d = omega (arith, signed_arith, one_part d)

pub whole_days_of-whole_seconds_of : (d : ℤ) → whole_days_of d ≡ int_div (whole_seconds_of d) (pos 86_400)
unfolding whole_days_of whole_seconds_of
whole_days_of-whole_seconds_of d = omega (arith, signed_arith, one_part d)

-- the whole milliseconds and microseconds are those of the whole seconds and those that they leave
pub whole_milliseconds_of-parts : (d : ℤ) → whole_milliseconds_of d ≡ (whole_seconds_of d *ℤ pos 1_000) +ℤ subsec_milliseconds_of d
unfolding whole_milliseconds_of whole_seconds_of subsec_milliseconds_of subsec_nanoseconds_of
whole_milliseconds_of-parts d = omega (arith, signed_arith, one_part d)

pub whole_microseconds_of-parts : (d : ℤ) → whole_microseconds_of d ≡ (whole_seconds_of d *ℤ pos 1_000_000) +ℤ subsec_microseconds_of d
unfolding whole_microseconds_of whole_seconds_of subsec_microseconds_of subsec_nanoseconds_of
whole_microseconds_of-parts d = omega (arith, signed_arith, one_part d)

-- what `unwrap` gives of a value that is there where a fact holds
pub unwrapped : {T : Type 0} (r : Option T) (P : Type 0) (v x : T) → SomeIff r P v → r ≡ Some x → x ≡ v
unwrapped r P v x h e = (rw e at h).1

-- a duration is that of an equal number, and near to it
pub SomeDuration-same : (r : Option ℤ) (d e : ℤ) → SomeDuration r d → d ≡ e → SomeDuration r e
SomeDuration-same r d e h same = rw same at h

pub IsNearestDuration-same : (d e n : ℤ) → IsNearestDuration d n → d ≡ e → IsNearestDuration e n
IsNearestDuration-same d e n h same = rw same at h

-- 128 bits hold a duration's nanoseconds times a number of 32 bits and a sign
pub FitsSigned-product : (d factor : ℤ) → IsDuration d → unsigned_abs factor ≤ 4_294_967_296 → FitsSigned w128 (d *ℤ factor)
FitsSigned-product d factor h small =
    fits_signed_mul w128 d factor 9_223_372_036_854_775_808_999_999_999 4_294_967_296 (omega (arith, signed_arith, one_part d, h)) small
    (omega arith)

-- a quotient is no larger than what is divided
unsigned_abs-int_div : (a d : ℤ) → unsigned_abs (int_div a d) ≤ unsigned_abs a
unsigned_abs-int_div (pos a) (pos b) = div-le_self a b
unsigned_abs-int_div (pos a) (negsuc b) = omega (arith, signed_arith, div-le_self a (suc b))
unsigned_abs-int_div (negsuc a) (pos b) = omega (arith, signed_arith, div-le_self (suc a) b)
unsigned_abs-int_div (negsuc a) (negsuc b) = div-le_self (suc a) (suc b)

-- 128 bits hold the quotients of a duration's nanoseconds
pub FitsSigned-quotient : (d divisor : ℤ) → IsDuration d → FitsSigned w128 (int_div d divisor)
FitsSigned-quotient d divisor h =
    fits_signed_from_abs w128 (int_div d divisor) (omega (arith, signed_arith, one_part d, h, unsigned_abs-int_div d divisor))

-- the quotient by a number that is not 0
pub HasQuotient-some : (r : Option ℤ) (d divisor : ℤ) → SomeDuration r (int_div d divisor) → divisor ≢ pos 0 →
    SomeIff r (HasQuotient d divisor) (int_div d divisor)
HasQuotient-some None d divisor h nonzero = λ quotient. h quotient.1
HasQuotient-some (Some x) d divisor h nonzero = ((nonzero, h.0), h.1)

-- a duration without its sign counts its parts without theirs
pub duration_of_parts-abs : (s n : ℤ) → IsDurationParts s n → unsigned_abs s ≤ 9_223_372_036_854_775_807 →
    duration_of_parts (pos (unsigned_abs s)) (pos (unsigned_abs n)) ≡ pos (min (unsigned_abs (duration_of_parts s n)) (unsigned_abs greatest_duration))
duration_of_parts-abs s n p most =
    omega (arith, signed_arith, duration_signs s n p, p.in_range, one_part (duration_of_parts s n))
