use Rattle.std.proofs.Common.{◌≡◌, ◌<◌, ℤ, pos, length, to_z, of_z, arith, subst, ap, ◌∙◌}
use Rattle.std.proofs.lemmas.List.{length-set, get_or-set_other}
use mir.Syntax.{w32, w64}
use Rattle.calendar_values.specs.SignedArith.{signed_arith}
use Rattle.calendar_values.specs.Offsets.{IsOffset}
use Rattle.zones.specs.Intervals.{IsWithin}
use Rattle.zones.specs.Seconds.{IsSecond}
use Rattle.zones.specs.Zones.{IsZoneOffset}
use Rattle.zones.proofs.IntervalLemmas.{one_offset}
use Rattle.zones.proofs.zone.Zone.offsets_at.Goals as goal

offset_back : (o : ℤ) → IsOffset o → to_z w32 (of_z w32 o) ≡ o
offset_back o h = omega (arith, signed_arith)

second_back : (s : ℤ) → IsSecond s → to_z w64 (of_z w64 s) ≡ s
second_back s h = omega (arith, signed_arith)

pub seconds-preserved : goal.seconds-preserved
seconds-preserved c =
    let z = c.args.self.now in
    let room = c.seconds.room in
    let n = c.seconds.count in
    let kept = c.interval_for-kept.result in
    let second = c.second_in-second.result in
    let o = to_z w32 (of_z w32 kept.kind.offset) in
    let inside : n < length room = omega arith in
    let grown = length-set room n o in
    let size = c.seconds.invariant.size in
    let same = second_back second c.second_in-second.ensures.in_range in
    let within : IsWithin kept second = subst (λ (t : ℤ). IsWithin kept t) same c.interval_for-kept.ensures.within in
    let found = c.interval_for-kept.ensures.holds second within in
    let has : IsZoneOffset z second o = (found.0, found.1, offset_back kept.kind.offset kept.kind.offset_in ∙ ap (λ k. k.offset) found.2) in
    record {
      size = omega arith;
      bound = omega arith;
      inside = omega arith;
      holds = c.interval_for-kept.ensures.holds;
      each = one_offset z c.args.seconds.now room n second o inside c.second_in-second.ensures.value has c.seconds.invariant.each;
      rest = λ i l. get_or-set_other room n i o (pos 0) (omega arith) ∙ c.seconds.invariant.rest i (omega arith);
    }

pub returns-clause-offsets : goal.returns-clause-offsets
returns-clause-offsets c = record {
  bound = c.seconds.invariant.bound;
  each = c.seconds.invariant.each;
  kept = c.seconds.invariant.rest;
  whole = λ more. (let inside = c.seconds.invariant.inside in omega arith);
}
