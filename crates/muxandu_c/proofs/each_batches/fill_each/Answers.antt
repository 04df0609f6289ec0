use Rattle.std.proofs.Common.{rules, arith, subst, refl, ◌≡◌, ◌++◌, ℕ, length, drop}
use Rattle.muxandu_c.specs.EachBatches.{status_of_each}
use Rattle.muxandu_c.proofs.BatchLemmas.{front-behind}
use Rattle.muxandu_c.proofs.EachBatchLemmas.{written_each-more, status_of_each-more, count_of_values-more}
use Rattle.muxandu_c.proofs.EachBatchLemmas.{written_each-all, status_of_each-all, count_of_values-all}
use Rattle.muxandu_c.proofs.ValuesLemmas.{behind_next}
use Rattle.muxandu_c.proofs.each_batches.fill_each.Goals as goal

pub loop-k-preserved : goal.loop-k-preserved
loop-k-preserved g c =
    let value_of = g.C.Conversion.value_of c.args.conversion in
    let items = c.args.items.now in
    let before = c.loop-k.invariant in
    let low = c.loop-k-test.true in
    let x = c.index-items-k.result in
    let answer = c.convert-answer.result in
    let item = c.index-items-k.is in
    let converted = c.convert-answer.ensures in
    record {
      written =
          written_each-more value_of items c.loop-k.k _ x c.loop-k.out c.index-out-k.result _ c.put_value.new.there answer _ low (search rules) item converted
          refl c.put_value.ensures before.written;
      statuses =
          status_of_each-more value_of items c.loop-k.k _ x c.loop-k.statuses c.status_of.result answer _ low (search rules) item converted
          c.status_of.ensures before.statuses;
      behind = behind_next c.loop-k.statuses c.args.statuses.now c.loop-k.k c.status_of.result before.behind;
      count =
          count_of_values-more value_of items c.loop-k.k _ x c.loop-k.count c.count_of-count.result _ answer low item converted
          c.count_of-count.ensures.value before.count;
      at_most = omega (arith, before.at_most, c.count_of-count.ensures.at_most);
      out_room = search rules;
      statuses_room = search rules;
    }

pub returns-clause-count : goal.returns-clause-count
returns-clause-count g c =
    count_of_values-all (g.C.Conversion.value_of c.args.conversion) c.args.items.now c.loop-k.k _ c.loop-k-test.false c.loop-k.invariant.count

pub returns-clause-written : goal.returns-clause-written
returns-clause-written g c =
    written_each-all (g.C.Conversion.value_of c.args.conversion) c.args.items.now c.loop-k.k _ _ c.loop-k-test.false c.loop-k.invariant.written

pub returns-clause-statuses : goal.returns-clause-statuses
returns-clause-statuses g c =
    let value_of = g.C.Conversion.value_of c.args.conversion in
    let items = c.args.items.now in
    let end : c.loop-k.k ≡ length items = search rules in
    let done = status_of_each-all value_of items c.loop-k.k _ c.loop-k-test.false c.loop-k.invariant.statuses in
    subst (λ (n : ℕ). c.loop-k.statuses ≡ status_of_each value_of items ++ drop n c.args.statuses.now) end
    (front-behind c.loop-k.k c.loop-k.statuses c.args.statuses.now _ done c.loop-k.invariant.behind)
