-- The hours, the minutes and the seconds of an offset are the only ones of one sign that make it.
use Rattle.std.specs.Prelude.{◌≡◌, ◌⊎◌, ℤ, pos, negsuc}
use Rattle.std.proofs.Common.{arith, inl, inr, ◌-ℤ◌, FitsSigned, w32, to_z, of_z, to_z-of_z}
use Rattle.std.proofs.lemmas.Int.{ints}
use borrow.Author.Differences.{up, down}
use Rattle.calendar_values.specs.Offsets.{IsOffset, seconds_of_parts, offset_hours_of, offset_minutes_of, offset_seconds_of, AreSignedOffsetParts}
use Rattle.calendar_values.specs.SignedArith.{signed_arith, one_part}

pub seconds_of_parts-of : (o : ℤ) → seconds_of_parts (offset_hours_of o) (offset_minutes_of o) (offset_seconds_of o) ≡ o
unfolding offset_hours_of offset_minutes_of offset_seconds_of
seconds_of_parts-of o = omega (arith, signed_arith, one_part o)

pub AreSignedOffsetParts-of : (o : ℤ) → IsOffset o → AreSignedOffsetParts (offset_hours_of o) (offset_minutes_of o) (offset_seconds_of o)
unfolding offset_hours_of offset_minutes_of offset_seconds_of
AreSignedOffsetParts-of (pos n) p = record {
  hours_in_range = omega (arith, signed_arith);
  minutes_in_range = omega (arith, signed_arith);
  seconds_in_range = omega (arith, signed_arith);
  one_sign = inl omega (arith, ints);
}
AreSignedOffsetParts-of (negsuc n) p = record {
  hours_in_range = omega (arith, signed_arith);
  minutes_in_range = omega (arith, signed_arith);
  seconds_in_range = omega (arith, signed_arith);
  one_sign = inr omega (arith, ints);
}

-- no part is negative, or none is positive
pub offset_signs : (h m s : ℤ) → AreSignedOffsetParts h m s → ((down h ≡ 0) × (down m ≡ 0) × (down s ≡ 0)) ⊎ ((up h ≡ 0) × (up m ≡ 0) × (up s ≡ 0))
offset_signs h m s p =
    elim p.one_sign [
      | inl q ↦ inl (omega (arith, signed_arith, one_part h, q), omega (arith, signed_arith, one_part m, q), omega (arith, signed_arith, one_part s, q))
      | inr q ↦ inr (omega (arith, signed_arith, one_part h, q), omega (arith, signed_arith, one_part m, q), omega (arith, signed_arith, one_part s, q))
    ]

pub offset_hours_of-parts : (h m s : ℤ) → AreSignedOffsetParts h m s → offset_hours_of (seconds_of_parts h m s) ≡ h
unfolding offset_hours_of
offset_hours_of-parts h m s p =
    omega (arith, signed_arith, offset_signs h m s p, one_part (seconds_of_parts h m s))

pub offset_minutes_of-parts : (h m s : ℤ) → AreSignedOffsetParts h m s → offset_minutes_of (seconds_of_parts h m s) ≡ m
unfolding offset_minutes_of
offset_minutes_of-parts h m s p =
    omega (arith, signed_arith, offset_signs h m s p, one_part (seconds_of_parts h m s))

pub offset_seconds_of-parts : (h m s : ℤ) → AreSignedOffsetParts h m s → offset_seconds_of (seconds_of_parts h m s) ≡ s
unfolding offset_seconds_of
offset_seconds_of-parts h m s p =
    omega (arith, signed_arith, offset_signs h m s p, one_part (seconds_of_parts h m s))

-- the seconds between two offsets fit an i32, and the i32 has their value
pub FitsSigned-offsets_apart : (a b : ℤ) → IsOffset a → IsOffset b → FitsSigned w32 (a -ℤ b)
FitsSigned-offsets_apart a b h k = omega (arith, signed_arith)

pub to_z-offsets_apart : (a b : ℤ) → IsOffset a → IsOffset b → to_z w32 (of_z w32 (a -ℤ b)) ≡ a -ℤ b
to_z-offsets_apart a b h k = to_z-of_z (FitsSigned-offsets_apart a b h k)

-- the rules that callers name if they subtract the seconds of one offset from those of another
pub ruleset offsets_apart = (FitsSigned-offsets_apart, to_z-offsets_apart)
