use Rattle.std.proofs.Common.{rules, ◌≡◌, ℕ, length, take, get_or, pos, subst, to_z, of_z, w32, w64}
use Rattle.muxandu_c.specs.Batches.{AreValuesOf}
use Rattle.muxandu_c.specs.ZoneBatches.{IsOffsetIn}
use Rattle.muxandu_c.proofs.ValuesLemmas.{all_done, next_refused, next_value, behind_next}
use Rattle.muxandu_c.proofs.zone_batches.fill_offsets.Goals as goal

pub returns-in-Err-clause-values : goal.returns-in-Err-clause-values
returns-in-Err-clause-values c =
    let item = get_or c.args.seconds.now c.loop-k.k (pos 0) in
    let same : to_z w64 (of_z w64 item) ≡ item = search rules in
    let refused = rw same at c.in-Err.ensures.refused in
    rw (c.stop_at.ensures.count, c.stop_at.ensures.status)
    (next_refused (IsOffsetIn c.args.zone.now) c.args.seconds.now c.loop-k.k (pos 0) _ c.in-Err.refused c.loop-k-test.true refused
    c.loop-k.invariant.values)

pub loop-k-preserved : goal.loop-k-preserved
loop-k-preserved c =
    let before = c.loop-k.invariant in
    let item = get_or c.args.seconds.now c.loop-k.k (pos 0) in
    let offset = c.in-Ok.found.kind.offset in
    let same : to_z w64 (of_z w64 item) ≡ item = search rules in
    let put : to_z w32 (of_z w32 offset) ≡ offset = search rules in
    let found = rw same at c.in-Ok.ensures.offset in
    record {
      values =
          rw put
          (next_value (IsOffsetIn c.args.zone.now) c.args.seconds.now c.loop-k.k (pos 0) c.loop-k.out offset c.loop-k-test.true (search rules) found
          before.values);
      behind = rw put (behind_next c.loop-k.out c.args.out.now c.loop-k.k offset before.behind);
      room = search rules;
      kept = c.in-Ok.ensures.holds;
    }

pub returns-clause-values : goal.returns-clause-values
returns-clause-values c =
    let seconds = c.args.seconds.now in
    let end : c.loop-k.k ≡ length seconds = search rules in
    subst (λ (n : ℕ). AreValuesOf (IsOffsetIn c.args.zone.now) seconds (take n c.loop-k.out) 0) end
    (all_done (IsOffsetIn c.args.zone.now) seconds c.loop-k.k _ (search rules) c.loop-k.invariant.values)
