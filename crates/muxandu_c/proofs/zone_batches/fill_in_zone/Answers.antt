use Rattle.std.proofs.Common.{rules, ◌≡◌, ℕ, length, take, subst}
use Rattle.muxandu_c.specs.Batches.{AreValuesOf}
use Rattle.muxandu_c.proofs.ValuesLemmas.{all_done, next_refused, next_value, behind_next}
use Rattle.muxandu_c.proofs.zone_batches.fill_in_zone.Goals as goal

pub returns-in-Err-clause-values : goal.returns-in-Err-clause-values
returns-in-Err-clause-values g c =
    let makes = g.C.InZone.makes c.args.maker c.args.zone.now in
    let refused = rw c.index-items-k.is at c.in-Err.ensures in
    rw (c.stop_at.ensures.count, c.stop_at.ensures.status)
    (next_refused makes c.args.items.now c.loop-k.k _ _ c.in-Err.refused c.loop-k-test.true refused c.loop-k.invariant.values)

pub loop-k-preserved : goal.loop-k-preserved
loop-k-preserved g c =
    let makes = g.C.InZone.makes c.args.maker c.args.zone.now in
    let before = c.loop-k.invariant in
    let made = rw c.index-items-k.is at c.in-Ok.ensures in
    record {
      values =
          next_value makes c.args.items.now c.loop-k.k _ c.loop-k.out c.in-Ok.value c.loop-k-test.true (search rules) made before.values;
      behind = behind_next c.loop-k.out c.args.out.now c.loop-k.k c.in-Ok.value before.behind;
      room = search rules;
    }

pub returns-clause-values : goal.returns-clause-values
returns-clause-values g c =
    let makes = g.C.InZone.makes c.args.maker c.args.zone.now in
    let items = c.args.items.now in
    let end : c.loop-k.k ≡ length items = search rules in
    subst (λ (n : ℕ). AreValuesOf makes items (take n c.loop-k.out) 0) end
    (all_done makes items c.loop-k.k _ (search rules) c.loop-k.invariant.values)
