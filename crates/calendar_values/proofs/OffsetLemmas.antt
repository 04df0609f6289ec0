-- The signs, the parts and the texts of offsets.
use Rattle.std.proofs.Common.{lit≤, ◌≡◌, ℕ, ℤ, w8, w32, to_z, of_z, int_div, int_rem, pos, ◌/◌, ◌%◌, ◌<ℤ◌, ◌≤ℤ◌, neg_ℤ, unsigned_abs}
use Rattle.std.proofs.Common.{inl, inr, List, ◌++◌, refl, arith, IsTrue, false, ◌≤◌}
use Rattle.std.proofs.lemmas.Int.{by_lt_z, ints}
use Rattle.std.specs.Prelude.{Ok, codes, int_lt, if◌then◌else◌}
use Rattle.calendar_values.specs.Digits.{last_digits}
use Rattle.calendar_values.specs.OffsetPartLemmas.{offset_signs}
use Rattle.calendar_values.specs.Offsets.{IsOffset, AreSignedOffsetParts, seconds_of_parts, offset_hours_of, offset_minutes_of, offset_seconds_of, with_sign_of}
use Rattle.calendar_values.specs.Offsets.{offset_of_seconds}
use Rattle.calendar_values.specs.SignedArith.{signed_arith, one_part}
use Rattle.calendar_values.specs.Texts.{offset_text}

-- an offset in range is not refused
pub offset_of_seconds-in : (o : ℤ) → IsOffset o → offset_of_seconds o ≡ Ok o
unfolding offset_of_seconds
offset_of_seconds-in o p = grind (arith, ints)

-- the parts of an offset, as the code computes them
pub computed_hours : (o : ℤ) → IsOffset o → to_z w8 (of_z w8 (to_z w32 (of_z w32 (int_div (to_z w32 (of_z w32 o)) (pos 3_600))))) ≡ offset_hours_of o
unfolding offset_hours_of
computed_hours o p = omega (arith, signed_arith, one_part o)

pub computed_minutes : (o : ℤ) → IsOffset o → to_z w8 (of_z w8 (to_z w32
    (of_z w32 (int_rem (to_z w32 (of_z w32 (int_div (to_z w32 (of_z w32 o)) (pos 60)))) (pos 60))))) ≡ offset_minutes_of o
unfolding offset_minutes_of
computed_minutes o p = omega (arith, signed_arith, one_part o)

pub computed_seconds : (o : ℤ) → IsOffset o → to_z w8 (of_z w8 (to_z w32 (of_z w32 (int_rem (to_z w32 (of_z w32 o)) (pos 60))))) ≡ offset_seconds_of o
unfolding offset_seconds_of
computed_seconds o p = omega (arith, signed_arith, one_part o)

pub with_sign_of-positive : (greater part : ℤ) → pos 0 <ℤ greater → with_sign_of greater part ≡ pos (unsigned_abs part)
with_sign_of-positive greater part h = grind (arith, ints)

pub with_sign_of-negative : (greater part : ℤ) → greater <ℤ pos 0 → with_sign_of greater part ≡ neg_ℤ (pos (unsigned_abs part))
with_sign_of-negative greater part h = grind (arith, ints)

pub unsigned_abs-with_sign_of : (greater part : ℤ) → unsigned_abs (with_sign_of greater part) ≡ unsigned_abs part
unsigned_abs-with_sign_of greater part = grind (arith, signed_arith)

-- parts of which none is negative, and parts of which none is positive
positive : (h m s : ℤ) → unsigned_abs h ≤ 25 → unsigned_abs m ≤ 59 → unsigned_abs s ≤ 59 → (pos 0 ≤ℤ h) × (pos 0 ≤ℤ m) × (pos 0 ≤ℤ s)
    → AreSignedOffsetParts h m s
positive h m s a b d signs = record { hours_in_range = a; minutes_in_range = b; seconds_in_range = d; one_sign = inl signs }

negative : (h m s : ℤ) → unsigned_abs h ≤ 25 → unsigned_abs m ≤ 59 → unsigned_abs s ≤ 59 → (h ≤ℤ pos 0) × (m ≤ℤ pos 0) × (s ≤ℤ pos 0)
    → AreSignedOffsetParts h m s
negative h m s a b d signs = record { hours_in_range = a; minutes_in_range = b; seconds_in_range = d; one_sign = inr signs }

-- parts that have been given their signs are parts of an offset
pub AreSignedOffsetParts-with_sign_of : (h m s : ℤ) → unsigned_abs h ≤ 25 → unsigned_abs m ≤ 59 → unsigned_abs s ≤ 59 →
    AreSignedOffsetParts h (with_sign_of h m) (with_sign_of h (with_sign_of m s))
AreSignedOffsetParts-with_sign_of h m s a b d =
    let n = with_sign_of m s in
    let size : unsigned_abs n ≡ unsigned_abs s = unsigned_abs-with_sign_of m s in
    let below : unsigned_abs n ≤ 59 = rw size d in
    by_lt_z (pos 0) h
    (λ more. rw (with_sign_of-positive h m more, with_sign_of-positive h n more) (positive h (pos (unsigned_abs m)) (pos (unsigned_abs n)) a b below
    omega (arith, signed_arith)))
    (λ at_most. by_lt_z h (pos 0)
    (λ less. rw (with_sign_of-negative h m less, with_sign_of-negative h n less) (negative h (neg_ℤ (pos (unsigned_abs m))) (neg_ℤ (pos (unsigned_abs n))) a
    (omega (arith, signed_arith)) (omega (arith, signed_arith)) omega (arith, signed_arith)))
    (λ at_least. let none : h ≡ pos 0 = omega (arith, signed_arith) in rw none (by_lt_z (pos 0) m
    (λ more. rw (with_sign_of-positive m s more) (positive (pos 0) m (pos (unsigned_abs s)) (lit≤ tt) b d
    omega (arith, signed_arith)))
    (λ not_more. by_lt_z m (pos 0)
    (λ less. rw (with_sign_of-negative m s less) (negative (pos 0) m (neg_ℤ (pos (unsigned_abs s))) (lit≤ tt) b (omega (arith, signed_arith))
    omega (arith, signed_arith)))
    (λ not_less. let no_minutes : m ≡ pos 0 = omega (arith, signed_arith) in rw no_minutes (by_lt_z s (pos 0)
    (λ less. negative (pos 0) (pos 0) s (lit≤ tt) (lit≤ tt) d omega (arith, signed_arith))
    (λ at_least. positive (pos 0) (pos 0) s (lit≤ tt) (lit≤ tt) d omega (arith, signed_arith))))))))

-- the absolute parts of an offset
pub unsigned_abs-hours : (h m s : ℤ) → AreSignedOffsetParts h m s → unsigned_abs (seconds_of_parts h m s) / 3_600 ≡ unsigned_abs h
unsigned_abs-hours h m s p =
    omega (arith, signed_arith, offset_signs h m s p, one_part (seconds_of_parts h m s))

pub unsigned_abs-minutes : (h m s : ℤ) → AreSignedOffsetParts h m s → unsigned_abs (seconds_of_parts h m s) / 60 % 60 ≡ unsigned_abs m
unsigned_abs-minutes h m s p =
    omega (arith, signed_arith, offset_signs h m s p, one_part (seconds_of_parts h m s))

pub unsigned_abs-seconds : (h m s : ℤ) → AreSignedOffsetParts h m s → unsigned_abs (seconds_of_parts h m s) % 60 ≡ unsigned_abs s
unsigned_abs-seconds h m s p =
    omega (arith, signed_arith, offset_signs h m s p, one_part (seconds_of_parts h m s))

-- the sign of an offset
abbrev pub sign_text : ℤ → List ℕ
sign_text o = if int_lt o (pos 0) then codes "-" else codes "+"

pub sign_text-negative : (o : ℤ) → o <ℤ pos 0 → codes "-" ≡ sign_text o
sign_text-negative o h = grind (arith, ints)

pub sign_text-not_negative : (o : ℤ) → (o <ℤ pos 0 → IsTrue false) → codes "+" ≡ sign_text o
sign_text-not_negative o h = grind (arith, ints)

-- what an offset shows, by its parts
pub offset_text-parts : (h m s : ℤ) → AreSignedOffsetParts h m s → offset_text (seconds_of_parts h m s) ≡ sign_text (seconds_of_parts h m s) ++
    last_digits 2 (unsigned_abs h) ++ codes ":" ++ last_digits 2 (unsigned_abs m) ++ codes ":" ++ last_digits 2 (unsigned_abs s)
unfolding offset_text
offset_text-parts h m s p =
    rw (unsigned_abs-hours h m s p, unsigned_abs-minutes h m s p, unsigned_abs-seconds h m s p) refl
