use Rattle.std.proofs.Common.{◌≡◌, ℤ, Option, IfSome, length, to_z, of_z, arith, ap, sym, subst, refl, ◌∙◌}
use Rattle.std.proofs.lemmas.List.{get_or_read_under}
use mir.Syntax.{w64}
use Rattle.calendar_values.specs.SignedArith.{signed_arith, one_part}
use Rattle.zones.specs.declared.slot.Slot.{Slot}
use Rattle.zones.specs.Slots.{AreSlots, no_slot, slot_offset}
use Rattle.zones.specs.Zones.{ZoneParts, IsZoneOffset}
use Rattle.zones.proofs.SlotLemmas.{slot_has}
use Rattle.zones.proofs.zone.Zone.kept_offset.Goals as goal

pub returns : goal.returns
returns c =
    let z = c.args.self.now in
    let t = c.args.second in
    let slots = c.self.inside.slots.now in
    let slot = c.index-self-place.result in
    let right : AreSlots z slots = subst (λ (v : ZoneParts). AreSlots v slots) c.self.view_is c.self.invariant.1 in
    let is = sym (get_or_read_under slots _ (length slots) slot no_slot c.index-self-place.is (omega arith) refl) in
    let back : to_z w64 (of_z w64 t) ≡ t = omega (arith, signed_arith) in
    let has = slot_has z slots _ slot t right (omega arith) is (omega (arith, signed_arith, one_part t)) in
    let same = c.offset_at.ensures ∙ ap (λ (s : Slot). slot_offset s (to_z w64 (of_z w64 t))) (sym c.index-self-place.is) ∙ ap (slot_offset slot) back in
    subst (λ (o : Option ℤ). IfSome o (IsZoneOffset z t)) (sym same) has
