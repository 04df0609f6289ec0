use Rattle.std.proofs.Common.{rules, arith, subst, refl, ◌≡◌, ◌++◌, ◌<◌, ◌≤◌, ℕ, length, drop}
use Rattle.std.specs.List.{zip}
use Rattle.muxandu_c.specs.EachBatches.{status_of_each}
use Rattle.muxandu_c.specs.PairBatches.{of_pair}
use Rattle.muxandu_c.proofs.BatchLemmas.{front-behind}
use Rattle.muxandu_c.proofs.EachBatchLemmas.{written_each-more, status_of_each-more, count_of_values-more}
use Rattle.muxandu_c.proofs.EachBatchLemmas.{written_each-all, status_of_each-all, count_of_values-all}
use Rattle.muxandu_c.proofs.PairBatchLemmas.{length-pairs, of_pair-at}
use Rattle.muxandu_c.proofs.ValuesLemmas.{behind_next}
use Rattle.muxandu_c.proofs.pair_batches.fill_each_pair.Goals as goal

pub loop-k-preserved : goal.loop-k-preserved
loop-k-preserved g c =
    let f = g.P.Pairing.value_of c.args.pairing in
    let pairs = zip c.args.firsts.now c.args.seconds.now in
    let before = c.loop-k.invariant in
    let all = length-pairs c.args.firsts.now c.args.seconds.now before.pairs in
    let test = c.loop-k-test.true in
    let low : c.loop-k.k < length pairs = omega (arith, all, test) in
    let room = before.pairs in
    let low_second : c.loop-k.k < length c.args.seconds.now = omega (arith, room, test) in
    let answer = c.pair-answer.result in
    let paired =
    of_pair-at f _ _ c.loop-k.k _ _ _ _ _ test low_second c.index-firsts-k.is c.index-seconds-k.is c.pair-answer.ensures in
    record {
      written =
          written_each-more (of_pair f) pairs c.loop-k.k _ _ c.loop-k.out c.index-out-k.result _ c.put_value.new.there answer _ low (search rules) refl paired
          refl c.put_value.ensures before.written;
      statuses =
          status_of_each-more (of_pair f) pairs c.loop-k.k _ _ c.loop-k.statuses c.status_of.result answer _ low (search rules) refl paired
          c.status_of.ensures before.statuses;
      behind = behind_next c.loop-k.statuses c.args.statuses.now c.loop-k.k c.status_of.result before.behind;
      count =
          count_of_values-more (of_pair f) pairs c.loop-k.k _ _ c.loop-k.count c.count_of-count.result _ answer low refl paired
          c.count_of-count.ensures.value before.count;
      at_most = omega (arith, before.at_most, c.count_of-count.ensures.at_most);
      out_room = search rules;
      pairs = before.pairs;
      statuses_room = search rules;
    }

pub returns-clause-count : goal.returns-clause-count
returns-clause-count g c =
    let f = g.P.Pairing.value_of c.args.pairing in
    let pairs = zip c.args.firsts.now c.args.seconds.now in
    let all = length-pairs c.args.firsts.now c.args.seconds.now c.loop-k.invariant.pairs in
    let test = c.loop-k-test.false in
    let last : length pairs ≤ c.loop-k.k = omega (arith, all, test) in
    count_of_values-all (of_pair f) pairs c.loop-k.k _ last c.loop-k.invariant.count

pub returns-clause-written : goal.returns-clause-written
returns-clause-written g c =
    let f = g.P.Pairing.value_of c.args.pairing in
    let pairs = zip c.args.firsts.now c.args.seconds.now in
    let all = length-pairs c.args.firsts.now c.args.seconds.now c.loop-k.invariant.pairs in
    let test = c.loop-k-test.false in
    let last : length pairs ≤ c.loop-k.k = omega (arith, all, test) in
    written_each-all (of_pair f) pairs c.loop-k.k _ _ last c.loop-k.invariant.written

pub returns-clause-statuses : goal.returns-clause-statuses
returns-clause-statuses g c =
    let f = g.P.Pairing.value_of c.args.pairing in
    let pairs = zip c.args.firsts.now c.args.seconds.now in
    let all = length-pairs c.args.firsts.now c.args.seconds.now c.loop-k.invariant.pairs in
    let test = c.loop-k-test.false in
    let last : length pairs ≤ c.loop-k.k = omega (arith, all, test) in
    let last_first : c.loop-k.k ≡ length c.args.firsts.now = search rules in
    let end : c.loop-k.k ≡ length pairs = omega (arith, all, last_first) in
    let done = status_of_each-all (of_pair f) pairs c.loop-k.k _ last c.loop-k.invariant.statuses in
    subst (λ (n : ℕ). c.loop-k.statuses ≡ status_of_each (of_pair f) pairs ++ drop n c.args.statuses.now) end
    (front-behind c.loop-k.k c.loop-k.statuses c.args.statuses.now _ done c.loop-k.invariant.behind)
