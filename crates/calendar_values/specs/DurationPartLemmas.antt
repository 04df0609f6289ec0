-- The seconds and the nanoseconds of a duration are the only ones of one sign that make it.
use Rattle.std.specs.Prelude.{◌≡◌, ◌⊎◌, ℤ, pos, negsuc}
use Rattle.std.proofs.Common.{arith, inl, inr}
use Rattle.std.proofs.lemmas.Int.{ints}
use borrow.Author.Differences.{up, down}
use Rattle.calendar_values.specs.Durations.{duration_of_parts, whole_seconds_of, subsec_nanoseconds_of, IsDurationParts}
use Rattle.calendar_values.specs.SignedArith.{signed_arith, one_part}

pub duration_of_parts-of : (d : ℤ) → duration_of_parts (whole_seconds_of d) (subsec_nanoseconds_of d) ≡ d
unfolding whole_seconds_of subsec_nanoseconds_of
duration_of_parts-of d = omega (arith, signed_arith, one_part d)

pub IsDurationParts-of : (d : ℤ) → IsDurationParts (whole_seconds_of d) (subsec_nanoseconds_of d)
unfolding whole_seconds_of subsec_nanoseconds_of
IsDurationParts-of (pos n) = record { in_range = omega (arith, signed_arith); one_sign = inl omega (arith, ints) }
IsDurationParts-of (negsuc n) = record { in_range = omega (arith, signed_arith); one_sign = inr omega (arith, ints) }

-- no part is negative, or none is positive
pub duration_signs : (s n : ℤ) → IsDurationParts s n → ((down s ≡ 0) × (down n ≡ 0)) ⊎ ((up s ≡ 0) × (up n ≡ 0))
duration_signs s n p =
    elim p.one_sign [
      | inl q ↦ inl (omega (arith, signed_arith, one_part s, q), omega (arith, signed_arith, one_part n, q))
      | inr q ↦ inr (omega (arith, signed_arith, one_part s, q), omega (arith, signed_arith, one_part n, q))
    ]

pub whole_seconds_of-parts : (s n : ℤ) → IsDurationParts s n → whole_seconds_of (duration_of_parts s n) ≡ s
unfolding whole_seconds_of
whole_seconds_of-parts s n p =
    omega (arith, signed_arith, duration_signs s n p, one_part (duration_of_parts s n))

pub subsec_nanoseconds_of-parts : (s n : ℤ) → IsDurationParts s n → subsec_nanoseconds_of (duration_of_parts s n) ≡ n
unfolding subsec_nanoseconds_of
subsec_nanoseconds_of-parts s n p =
    omega (arith, signed_arith, duration_signs s n p, one_part (duration_of_parts s n))
