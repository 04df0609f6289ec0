-- The offsets that a zone keeps.
use Rattle.std.proofs.Common.{◌≡◌, inl, inr, ℕ, ◌*◌, ◌<◌, true, false, Bool, ℤ, pos, ◌≤ℤ◌, ◌<ℤ◌, int_le, int_lt, if◌then◌else◌, List, []}
use Rattle.std.proofs.Common.{◌∷◌, ◌++◌, length, get_or, Some, None, refl, sym, ap, subst, ◌∙◌, arith, IfSome}
use Rattle.std.proofs.lemmas.Bool.{cases_lt}
use Rattle.std.proofs.lemmas.List.{get_or_append_left, get_or_at, length-append}
use borrow.Author.Differences.{lt-true, lt-false, le-true}
use Rattle.calendar_values.specs.SignedArith.{signed_arith}
use Rattle.zones.specs.declared.interval.Interval.{Interval}
use Rattle.zones.specs.declared.slot.Slot.{Slot}
use Rattle.zones.specs.Intervals.{Holds, IsWithin}
use Rattle.zones.specs.Slots.{AreSlots, IsSlot, no_slot, slot_offset, until_of}
use Rattle.zones.specs.Zones.{ZoneParts, IsZoneOffset}

-- an interval that holds has the offset of the zone at each second of it
offset_within : (z : ZoneParts) (kept : Interval) (t o : ℤ) → Holds z kept → IsWithin kept t → o ≡ kept.kind.offset → IsZoneOffset z t o
offset_within z kept t o holds within is = let found = holds t within in (found.0, found.1, is ∙ ap (λ k. k.offset) found.2)

-- a slot that begins in one interval and ends in another is right
pub slot_between : (z : ZoneParts) (n : ℕ) (slot : Slot) (first last : Interval) → Holds z first → IsWithin first (pos (8_388_608 * n)) → Holds z last
    → slot.turn ≡ first.until → slot.until ≡ until_of first last → slot.before ≡ first.kind.offset → slot.after ≡ last.kind.offset → IsSlot z n slot
slot_between z n slot first last holds begins goes_on turn until before after t from = has (int_lt t slot.until) refl where
  begun : first.from ≤ℤ t
  begun = let b0 = begins.0 in omega (arith, signed_arith)

  later : slot.turn ≤ℤ t → t <ℤ slot.until → (b : Bool) → int_le last.from first.until ≡ b → slot.until ≡ (if b then last.until else first.until)
      → IsZoneOffset z t slot.after
  later over under true e is =
      let near = le-true last.from first.until e in
      offset_within z last t slot.after goes_on (omega (arith, signed_arith), omega (arith, signed_arith)) after
  later over under false e is = absurd (omega (arith, signed_arith))

  choose : t <ℤ slot.until → (b : Bool) → int_lt t slot.turn ≡ b → IsZoneOffset z t (if b then slot.before else slot.after)
  choose under true e =
      let over = lt-true t slot.turn e in
      offset_within z first t slot.before holds (begun, omega (arith, signed_arith)) before
  choose under false e =
      let over = lt-false t slot.turn e in
      later (omega (arith, signed_arith)) under (int_le last.from first.until) refl until

  has : (b : Bool) → int_lt t slot.until ≡ b
      → IfSome (if b then Some (if int_lt t slot.turn then slot.before else slot.after) else None) (IsZoneOffset z t)
  has true e = let under = lt-true t slot.until e in choose (omega (arith, signed_arith)) (int_lt t slot.turn) refl
  has false e = tt

-- one more slot
pub slot_added : (z : ZoneParts) (slots : List Slot) (n : ℕ) (slot : Slot) → length slots ≡ n → AreSlots z slots → IsSlot z n slot
    → AreSlots z (slots ++ slot ∷ [])
slot_added z slots n slot count before here j lt =
    let grown = length-append slots (slot ∷ []) in
    elim (cases_lt j n) [
      | inl less ↦
          subst (λ (s : Slot). IsSlot z j s) (sym (get_or_append_left slots (slot ∷ []) no_slot j (omega (arith, less, count)))) (before j (omega arith))
      | inr le ↦
          let is : n ≡ j = omega (arith, le, lt, grown, count) in
          subst (λ (k : ℕ). IsSlot z k (get_or (slots ++ slot ∷ []) k no_slot)) is
          (subst (λ (s : Slot). IsSlot z n s) (sym (get_or_at slots slot [] no_slot n count)) here)
    ]

-- what a slot of a zone has at a second of it
pub slot_has : (z : ZoneParts) (slots : List Slot) (n : ℕ) (slot : Slot) (t : ℤ) → AreSlots z slots → n < length slots → get_or slots n no_slot ≡ slot
    → pos (8_388_608 * n) ≤ℤ t → IfSome (slot_offset slot t) (IsZoneOffset z t)
slot_has z slots n slot t right inside is here = subst (λ (s : Slot). IfSome (slot_offset s t) (IsZoneOffset z t)) is (right n inside t here)

-- no slots are right in each zone
pub no_slots : (z : ZoneParts) → AreSlots z []
no_slots z j lt = absurd (omega arith)
