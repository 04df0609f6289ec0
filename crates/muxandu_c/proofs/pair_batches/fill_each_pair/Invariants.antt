use Rattle.std.proofs.Common.{◌≡◌, ◌+◌, ◌++◌, ◌≤◌, length, take, drop}
use Rattle.std.specs.List.{zip}
use Rattle.muxandu_c.specs.EachBatches.{written_each, status_of_each, count_of_values}
use Rattle.muxandu_c.specs.PairBatches.{of_pair}
use Rattle.muxandu_c.proofs.pair_batches.fill_each_pair.Given as goal

-- what was done so far and what is left to do are all; the statuses behind are as they were
abbrev pub invariant-loop-k : goal.invariant-loop-k
invariant-loop-k g l =
    let value_of = of_pair (g.P.Pairing.value_of l.pairing) in
    let pairs = zip l.firsts l.seconds in
    record {
      written : take l.k l.out ++ written_each value_of (drop l.k pairs) (drop l.k l.out) ≡ written_each value_of pairs l.initial.out;
      statuses : take l.k l.statuses ++ status_of_each value_of (drop l.k pairs) ≡ status_of_each value_of pairs;
      behind : drop l.k l.statuses ≡ drop l.k l.initial.statuses;
      count : l.count + count_of_values value_of (drop l.k pairs) ≡ count_of_values value_of pairs;
      at_most : l.count ≤ l.k;
      out_room : length l.firsts ≤ length l.out;
      pairs : length l.firsts ≤ length l.seconds;
      statuses_room : length l.firsts ≤ length l.statuses;
    }
