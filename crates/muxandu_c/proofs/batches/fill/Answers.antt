use Rattle.std.proofs.Common.{rules, ap, subst, sym, ◌≡◌, ◌∙◌, ◌++◌, ℕ, length, drop}
use Rattle.muxandu_c.specs.Batches.{values_of}
use Rattle.muxandu_c.proofs.BatchLemmas.{values_of-refused, status_of_items-refused, values_of-all, status_of_items-all, values_of-more, status_of_items-more}
use Rattle.muxandu_c.proofs.BatchLemmas.{length-front, front-behind}
use Rattle.muxandu_c.proofs.ValuesLemmas.{behind_next}
use Rattle.muxandu_c.proofs.batches.fill.Goals as goal

pub returns-in-Err-clause-count : goal.returns-in-Err-clause-count
returns-in-Err-clause-count g c =
    let value_of = g.C.Conversion.value_of c.args.conversion in
    let refused = c.in-Err.ensures ∙ ap value_of c.index-items-k.is in
    let done = values_of-refused value_of c.args.items.now c.loop-k.k _ _ c.in-Err.refused c.loop-k-test.true refused c.loop-k.invariant.values in
    c.stop_at.ensures.count ∙ length-front c.loop-k.k c.loop-k.out _ (search rules) done

pub returns-in-Err-clause-status : goal.returns-in-Err-clause-status
returns-in-Err-clause-status g c =
    let value_of = g.C.Conversion.value_of c.args.conversion in
    let refused = c.in-Err.ensures ∙ ap value_of c.index-items-k.is in
    c.stop_at.ensures.status ∙ status_of_items-refused value_of c.args.items.now c.loop-k.k _ c.in-Err.refused c.loop-k-test.true refused
    c.loop-k.invariant.status

pub returns-in-Err-clause-written : goal.returns-in-Err-clause-written
returns-in-Err-clause-written g c =
    let value_of = g.C.Conversion.value_of c.args.conversion in
    let refused = c.in-Err.ensures ∙ ap value_of c.index-items-k.is in
    let done = values_of-refused value_of c.args.items.now c.loop-k.k _ _ c.in-Err.refused c.loop-k-test.true refused c.loop-k.invariant.values in
    rw c.stop_at.ensures.count (front-behind c.loop-k.k c.loop-k.out c.args.out.now _ done c.loop-k.invariant.behind)

pub loop-k-preserved : goal.loop-k-preserved
loop-k-preserved g c =
    let value_of = g.C.Conversion.value_of c.args.conversion in
    let converted = c.in-Ok.ensures ∙ ap value_of c.index-items-k.is in
    let items = c.args.items.now in
    let before = c.loop-k.invariant in
    record {
      values =
          values_of-more value_of items c.loop-k.k _ c.loop-k.out c.in-Ok.value c.loop-k-test.true (search rules) converted ∙ before.values;
      status = status_of_items-more value_of items c.loop-k.k _ c.in-Ok.value c.loop-k-test.true converted ∙ before.status;
      behind = behind_next c.loop-k.out c.args.out.now c.loop-k.k c.in-Ok.value before.behind;
      room = search rules;
    }

pub returns-clause-count : goal.returns-clause-count
returns-clause-count g c =
    let value_of = g.C.Conversion.value_of c.args.conversion in
    let end : c.loop-k.k ≡ length c.args.items.now = search rules in
    sym end ∙ length-front c.loop-k.k c.loop-k.out _ (search rules)
    (values_of-all value_of c.args.items.now c.loop-k.k _ (search rules) c.loop-k.invariant.values)

pub returns-clause-status : goal.returns-clause-status
returns-clause-status g c =
    let value_of = g.C.Conversion.value_of c.args.conversion in
    status_of_items-all value_of c.args.items.now c.loop-k.k (search rules) c.loop-k.invariant.status

pub returns-clause-written : goal.returns-clause-written
returns-clause-written g c =
    let value_of = g.C.Conversion.value_of c.args.conversion in
    let items = c.args.items.now in
    let end : c.loop-k.k ≡ length items = search rules in
    subst (λ (n : ℕ). c.loop-k.out ≡ values_of value_of items ++ drop n c.args.out.now) end
    (front-behind c.loop-k.k c.loop-k.out c.args.out.now _ (values_of-all value_of items c.loop-k.k _ (search rules) c.loop-k.invariant.values)
    c.loop-k.invariant.behind)
