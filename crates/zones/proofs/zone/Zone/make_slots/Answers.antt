use Rattle.std.proofs.Common.{◌≡◌, ◌++◌, ◌∷◌, ◌∙◌, [], List, ℤ, to_z, of_z, arith, sym, subst}
use mir.Syntax.{w64}
use Rattle.calendar_values.specs.SignedArith.{signed_arith}
use Rattle.zones.specs.declared.slot.Slot.{Slot}
use Rattle.zones.specs.Intervals.{IsWithin}
use Rattle.zones.specs.Seconds.{IsSecond}
use Rattle.zones.specs.Slots.{AreSlots}
use Rattle.zones.proofs.SlotLemmas.{slot_added, slot_between}
use Rattle.zones.proofs.zone.Zone.make_slots.Goals as goal

second_back : (s : ℤ) → IsSecond s → to_z w64 (of_z w64 s) ≡ s
second_back s h = omega (arith, signed_arith)

pub each-preserved : goal.each-preserved
each-preserved c =
    let z = c.args.self.now in
    let n = c.each.place in
    let first = c.interval_for-first.result in
    let last = c.interval_for-kept.result in
    let slot = c.new.result in
    let start = c.slot_start-begin.result in
    let same = second_back start c.slot_start-begin.ensures.in_range ∙ c.slot_start-begin.ensures.value in
    let begins = subst (λ (t : ℤ). IsWithin first t) same c.interval_for-first.ensures.within in
    let more : c.push.new.self.items ≡ c.each.slots.items ++ slot ∷ [] = c.in_ok-push.ensures.items in
    let here = slot_between z n slot first last c.interval_for-first.ensures.holds begins c.interval_for-kept.ensures.holds c.new.ensures.turn
    c.new.ensures.until c.new.ensures.before c.new.ensures.after in
    record {
      holds = c.interval_for-kept.ensures.holds;
      right = subst (λ (s : List Slot). AreSlots z s) (sym more)
          (slot_added z c.each.slots.items n slot c.each.invariant.count c.each.invariant.right here);
      count = omega (arith, c.in_ok-push.ensures.len, c.each.invariant.count);
    }
