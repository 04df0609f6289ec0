use Rattle.std.proofs.Common.{◌≡◌, ℕ, ℤ, pos, neg_ℤ, ◌<◌, ◌≤◌, unsigned_abs, true, false, Ok, Err, FitsSigned, w8, to_z-of_z, refl, arith, rules}
use Rattle.std.proofs.lemmas.Int.{ints}
use Rattle.std.specs.Prelude.{codes}
use Rattle.calendar_values.specs.Offsets.{offset_of_parts, offset_outcome, seconds_of_signed_parts}
use Rattle.calendar_values.specs.Outcomes.{Gives}
use Rattle.calendar_values.specs.Range.{is_outside}
use Rattle.calendar_values.specs.Refusals.{outright_refusal}
use Rattle.calendar_values.proofs.OffsetLemmas.{AreSignedOffsetParts-with_sign_of, unsigned_abs-with_sign_of}
use Rattle.calendar_values.proofs.utc_offset.UtcOffset.from_hms.Goals as goal

outside-true : (limit : ℕ) (z : ℤ) → limit < unsigned_abs z → is_outside (neg_ℤ (pos limit)) (pos limit) z ≡ true
outside-true limit z h = grind (arith, ints)

outside-false : (limit : ℕ) (z : ℤ) → unsigned_abs z ≤ limit → is_outside (neg_ℤ (pos limit)) (pos limit) z ≡ false
outside-false limit z h = grind (arith, ints)

hours_refused : (h m s : ℤ) → 25 < unsigned_abs h → Gives {T = ℤ} (Err (outright_refusal (codes "hours"))) (offset_outcome h m s)
unfolding offset_of_parts
hours_refused h m s p =
    let e : is_outside (neg_ℤ (pos 25)) (pos 25) h ≡ true = outside-true 25 h p in
    record { value = λ fits. absurd (omega (arith, fits.0)); refused = rw e refl; equation = rw e refl }

minutes_refused : (h m s : ℤ) → unsigned_abs h ≤ 25 → 59 < unsigned_abs m → Gives {T = ℤ} (Err (outright_refusal (codes "minutes"))) (offset_outcome h m s)
unfolding offset_of_parts
minutes_refused h m s a p =
    let d : is_outside (neg_ℤ (pos 25)) (pos 25) h ≡ false = outside-false 25 h a in
    let e : is_outside (neg_ℤ (pos 59)) (pos 59) m ≡ true = outside-true 59 m p in
    record { value = λ fits. absurd (omega (arith, fits.1)); refused = rw (d, e) refl; equation = rw (d, e) refl }

seconds_refused : (h m s : ℤ) → unsigned_abs h ≤ 25 → unsigned_abs m ≤ 59 → 59 < unsigned_abs s →
    Gives {T = ℤ} (Err (outright_refusal (codes "seconds"))) (offset_outcome h m s)
unfolding offset_of_parts
seconds_refused h m s a b p =
    let d : is_outside (neg_ℤ (pos 25)) (pos 25) h ≡ false = outside-false 25 h a in
    let e : is_outside (neg_ℤ (pos 59)) (pos 59) m ≡ false = outside-false 59 m b in
    let f : is_outside (neg_ℤ (pos 59)) (pos 59) s ≡ true = outside-true 59 s p in
    record { value = λ fits. absurd (omega (arith, fits.2)); refused = rw (d, e) refl; equation = rw (d, e, f) refl }

accepted : (h m s : ℤ) → unsigned_abs h ≤ 25 → unsigned_abs m ≤ 59 → unsigned_abs s ≤ 59 →
    Gives {T = ℤ} (Ok (seconds_of_signed_parts h m s)) (offset_outcome h m s)
unfolding offset_of_parts
accepted h m s a b p =
    let d : is_outside (neg_ℤ (pos 25)) (pos 25) h ≡ false = outside-false 25 h a in
    let e : is_outside (neg_ℤ (pos 59)) (pos 59) m ≡ false = outside-false 59 m b in
    let f : is_outside (neg_ℤ (pos 59)) (pos 59) s ≡ false = outside-false 59 s p in
    record { value = ((a, b, p), refl); refused = tt; equation = rw (d, e, f) refl }

pub returns-then-unsigned_abs-gt25 : goal.returns-then-unsigned_abs-gt25
returns-then-unsigned_abs-gt25 c =
    let fits : FitsSigned w8 c.args.hours = c.ranges.hours in
    let size = simp to_z-of_z at c.unsigned_abs.ensures.value in
    rw c.of_part.ensures (hours_refused _ _ _ (omega arith))

pub returns-then-unsigned_abs-gt59 : goal.returns-then-unsigned_abs-gt59
returns-then-unsigned_abs-gt59 c =
    let h : FitsSigned w8 c.args.hours = c.ranges.hours in
    let m : FitsSigned w8 c.args.minutes = c.ranges.minutes in
    let hours = simp to_z-of_z at c.unsigned_abs.ensures.value in
    let minutes = simp to_z-of_z at c.unsigned_abs-2.ensures.value in
    rw c.of_part-then-unsigned_abs-gt59.ensures (minutes_refused _ _ _ (omega arith) (omega arith))

pub returns-then-unsigned_abs-gt59-2 : goal.returns-then-unsigned_abs-gt59-2
returns-then-unsigned_abs-gt59-2 c =
    let h : FitsSigned w8 c.args.hours = c.ranges.hours in
    let m : FitsSigned w8 c.args.minutes = c.ranges.minutes in
    let s : FitsSigned w8 c.args.seconds = c.ranges.seconds in
    let hours = simp to_z-of_z at c.unsigned_abs.ensures.value in
    let minutes = simp to_z-of_z at c.unsigned_abs-2.ensures.value in
    let seconds = simp to_z-of_z at c.unsigned_abs-3.ensures.value in
    rw c.of_part-then-unsigned_abs-gt59-2.ensures (seconds_refused _ _ _ (omega arith) (omega arith) (omega arith))

pub with_sign_of-requires-3 : goal.with_sign_of-requires-3
with_sign_of-requires-3 c =
    let s : FitsSigned w8 c.args.seconds = c.ranges.seconds in
    let signed : FitsSigned w8 c.with_sign_of-2.result = search rules in
    let seconds = simp to_z-of_z at c.unsigned_abs-3.ensures.value in
    let same = simp to_z-of_z at c.with_sign_of-2.ensures in
    simp to_z-of_z (rw same (rw unsigned_abs-with_sign_of (omega arith)))

pub invariant_of-result : goal.invariant_of-result
invariant_of-result c =
    let h : FitsSigned w8 c.args.hours = c.ranges.hours in
    let m : FitsSigned w8 c.args.minutes = c.ranges.minutes in
    let s : FitsSigned w8 c.args.seconds = c.ranges.seconds in
    let signed : FitsSigned w8 c.with_sign_of.result = search rules in
    let signed-2 : FitsSigned w8 c.with_sign_of-2.result = search rules in
    let signed-3 : FitsSigned w8 c.with_sign_of-3.result = search rules in
    let minutes = simp to_z-of_z at c.with_sign_of.ensures in
    let seconds = simp to_z-of_z at c.with_sign_of-2.ensures in
    let seconds' = simp to_z-of_z at c.with_sign_of-3.ensures in
    let a = simp to_z-of_z at c.unsigned_abs.ensures.value in
    let b = simp to_z-of_z at c.unsigned_abs-2.ensures.value in
    let d = simp to_z-of_z at c.unsigned_abs-3.ensures.value in
    simp to_z-of_z (rw (minutes, seconds', seconds) (AreSignedOffsetParts-with_sign_of c.args.hours c.args.minutes c.args.seconds
    (omega arith) (omega arith) (omega arith)))

pub returns : goal.returns
returns c =
    let h : FitsSigned w8 c.args.hours = c.ranges.hours in
    let m : FitsSigned w8 c.args.minutes = c.ranges.minutes in
    let s : FitsSigned w8 c.args.seconds = c.ranges.seconds in
    let signed : FitsSigned w8 c.with_sign_of.result = search rules in
    let signed-2 : FitsSigned w8 c.with_sign_of-2.result = search rules in
    let signed-3 : FitsSigned w8 c.with_sign_of-3.result = search rules in
    let minutes = simp to_z-of_z at c.with_sign_of.ensures in
    let seconds = simp to_z-of_z at c.with_sign_of-2.ensures in
    let seconds' = simp to_z-of_z at c.with_sign_of-3.ensures in
    let a = simp to_z-of_z at c.unsigned_abs.ensures.value in
    let b = simp to_z-of_z at c.unsigned_abs-2.ensures.value in
    let d = simp to_z-of_z at c.unsigned_abs-3.ensures.value in
    simp to_z-of_z (rw (minutes, seconds', seconds) (accepted c.args.hours c.args.minutes c.args.seconds (omega arith) (omega arith) (omega arith)))
