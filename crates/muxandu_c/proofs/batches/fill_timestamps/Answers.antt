use Rattle.std.proofs.Common.{rules, ◌≡◌, ℕ, length, take, subst}
use Rattle.muxandu_c.specs.Batches.{AreValuesOf}
use Rattle.muxandu_c.specs.Exchange.{IsReadAt}
use Rattle.muxandu_c.proofs.ValuesLemmas.{all_done, next_refused, next_value, behind_next}
use Rattle.muxandu_c.proofs.batches.fill_timestamps.Goals as goal

pub returns-in-Err-clause-values : goal.returns-in-Err-clause-values
returns-in-Err-clause-values c =
    rw (c.stop_at.ensures.count, c.stop_at.ensures.status)
    (next_refused (IsReadAt c.args.texts.now) c.args.spans.now c.loop-k.k _ _ c.in-Err.refused c.loop-k-test.true c.in-Err.ensures c.loop-k.invariant.values)

pub loop-k-preserved : goal.loop-k-preserved
loop-k-preserved c =
    let before = c.loop-k.invariant in
    record {
      values =
          next_value (IsReadAt c.args.texts.now) c.args.spans.now c.loop-k.k _ c.loop-k.out c.in-Ok.at c.loop-k-test.true (search rules) c.in-Ok.ensures
          before.values;
      behind = behind_next c.loop-k.out c.args.out.now c.loop-k.k c.in-Ok.at before.behind;
      room = search rules;
    }

pub returns-clause-values : goal.returns-clause-values
returns-clause-values c =
    let spans = c.args.spans.now in
    let end : c.loop-k.k ≡ length spans = search rules in
    subst (λ (n : ℕ). AreValuesOf (IsReadAt c.args.texts.now) spans (take n c.loop-k.out) 0) end
    (all_done (IsReadAt c.args.texts.now) spans c.loop-k.k _ (search rules) c.loop-k.invariant.values)
