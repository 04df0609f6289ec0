use Rattle.std.proofs.Common.{rules, subst, sym, arith, ◌≡◌, ◌∙◌, ◌++◌, ◌<◌, ◌≤◌, ℕ, length, drop}
use Rattle.std.specs.List.{zip}
use Rattle.muxandu_c.specs.Batches.{values_of}
use Rattle.muxandu_c.specs.PairBatches.{of_pair}
use Rattle.muxandu_c.proofs.BatchLemmas.{values_of-refused, status_of_items-refused, values_of-all, status_of_items-all, values_of-more, status_of_items-more}
use Rattle.muxandu_c.proofs.BatchLemmas.{length-front, front-behind}
use Rattle.muxandu_c.proofs.PairBatchLemmas.{length-pairs, of_pair-at}
use Rattle.muxandu_c.proofs.ValuesLemmas.{behind_next}
use Rattle.muxandu_c.proofs.pair_batches.fill_pairs.Goals as goal

pub returns-in-Err-clause-count : goal.returns-in-Err-clause-count
returns-in-Err-clause-count g c =
    let f = g.P.Pairing.value_of c.args.pairing in
    let pairs = zip c.args.firsts.now c.args.seconds.now in
    let all = length-pairs c.args.firsts.now c.args.seconds.now c.loop-k.invariant.pairs in
    let test = c.loop-k-test.true in
    let low : c.loop-k.k < length pairs = omega (arith, all, test) in
    let room = c.loop-k.invariant.pairs in
    let low_second : c.loop-k.k < length c.args.seconds.now = omega (arith, room, test) in
    let refused = of_pair-at f _ _ c.loop-k.k _ _ _ _ _ test low_second c.index-firsts-k.is c.index-seconds-k.is c.in-Err.ensures in
    let done = values_of-refused (of_pair f) pairs c.loop-k.k _ _ c.in-Err.refused low refused c.loop-k.invariant.values in
    c.stop_at.ensures.count ∙ length-front c.loop-k.k c.loop-k.out _ (search rules) done

pub returns-in-Err-clause-status : goal.returns-in-Err-clause-status
returns-in-Err-clause-status g c =
    let f = g.P.Pairing.value_of c.args.pairing in
    let pairs = zip c.args.firsts.now c.args.seconds.now in
    let all = length-pairs c.args.firsts.now c.args.seconds.now c.loop-k.invariant.pairs in
    let test = c.loop-k-test.true in
    let low : c.loop-k.k < length pairs = omega (arith, all, test) in
    let room = c.loop-k.invariant.pairs in
    let low_second : c.loop-k.k < length c.args.seconds.now = omega (arith, room, test) in
    let refused = of_pair-at f _ _ c.loop-k.k _ _ _ _ _ test low_second c.index-firsts-k.is c.index-seconds-k.is c.in-Err.ensures in
    c.stop_at.ensures.status ∙ status_of_items-refused (of_pair f) pairs c.loop-k.k _ c.in-Err.refused low refused c.loop-k.invariant.status

pub returns-in-Err-clause-written : goal.returns-in-Err-clause-written
returns-in-Err-clause-written g c =
    let f = g.P.Pairing.value_of c.args.pairing in
    let pairs = zip c.args.firsts.now c.args.seconds.now in
    let all = length-pairs c.args.firsts.now c.args.seconds.now c.loop-k.invariant.pairs in
    let test = c.loop-k-test.true in
    let low : c.loop-k.k < length pairs = omega (arith, all, test) in
    let room = c.loop-k.invariant.pairs in
    let low_second : c.loop-k.k < length c.args.seconds.now = omega (arith, room, test) in
    let refused = of_pair-at f _ _ c.loop-k.k _ _ _ _ _ test low_second c.index-firsts-k.is c.index-seconds-k.is c.in-Err.ensures in
    let done = values_of-refused (of_pair f) pairs c.loop-k.k _ _ c.in-Err.refused low refused c.loop-k.invariant.values in
    rw c.stop_at.ensures.count (front-behind c.loop-k.k c.loop-k.out c.args.out.now _ done c.loop-k.invariant.behind)

pub loop-k-preserved : goal.loop-k-preserved
loop-k-preserved g c =
    let f = g.P.Pairing.value_of c.args.pairing in
    let pairs = zip c.args.firsts.now c.args.seconds.now in
    let before = c.loop-k.invariant in
    let all = length-pairs c.args.firsts.now c.args.seconds.now before.pairs in
    let test = c.loop-k-test.true in
    let low : c.loop-k.k < length pairs = omega (arith, all, test) in
    let room = before.pairs in
    let low_second : c.loop-k.k < length c.args.seconds.now = omega (arith, room, test) in
    let paired = of_pair-at f _ _ c.loop-k.k _ _ _ _ _ test low_second c.index-firsts-k.is c.index-seconds-k.is c.in-Ok.ensures in
    record {
      values = values_of-more (of_pair f) pairs c.loop-k.k _ c.loop-k.out c.in-Ok.value low (search rules) paired ∙ before.values;
      status = status_of_items-more (of_pair f) pairs c.loop-k.k _ c.in-Ok.value low paired ∙ before.status;
      behind = behind_next c.loop-k.out c.args.out.now c.loop-k.k c.in-Ok.value before.behind;
      room = search rules;
      pairs = before.pairs;
    }

pub returns-clause-count : goal.returns-clause-count
returns-clause-count g c =
    let f = g.P.Pairing.value_of c.args.pairing in
    let pairs = zip c.args.firsts.now c.args.seconds.now in
    let all = length-pairs c.args.firsts.now c.args.seconds.now c.loop-k.invariant.pairs in
    let test = c.loop-k-test.false in
    let last : length pairs ≤ c.loop-k.k = omega (arith, all, test) in
    let end : c.loop-k.k ≡ length c.args.firsts.now = search rules in
    sym end ∙ length-front c.loop-k.k c.loop-k.out _ (search rules) (values_of-all (of_pair f) pairs c.loop-k.k _ last c.loop-k.invariant.values)

pub returns-clause-status : goal.returns-clause-status
returns-clause-status g c =
    let f = g.P.Pairing.value_of c.args.pairing in
    let pairs = zip c.args.firsts.now c.args.seconds.now in
    let all = length-pairs c.args.firsts.now c.args.seconds.now c.loop-k.invariant.pairs in
    let test = c.loop-k-test.false in
    let last : length pairs ≤ c.loop-k.k = omega (arith, all, test) in
    status_of_items-all (of_pair f) pairs c.loop-k.k last c.loop-k.invariant.status

pub returns-clause-written : goal.returns-clause-written
returns-clause-written g c =
    let f = g.P.Pairing.value_of c.args.pairing in
    let pairs = zip c.args.firsts.now c.args.seconds.now in
    let all = length-pairs c.args.firsts.now c.args.seconds.now c.loop-k.invariant.pairs in
    let test = c.loop-k-test.false in
    let last : length pairs ≤ c.loop-k.k = omega (arith, all, test) in
    let end : c.loop-k.k ≡ length c.args.firsts.now = search rules in
    subst (λ (n : ℕ). c.loop-k.out ≡ values_of (of_pair f) pairs ++ drop n c.args.out.now) end
    (front-behind c.loop-k.k c.loop-k.out c.args.out.now _ (values_of-all (of_pair f) pairs c.loop-k.k _ last c.loop-k.invariant.values)
    c.loop-k.invariant.behind)
