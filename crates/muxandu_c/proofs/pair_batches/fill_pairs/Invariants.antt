use Rattle.std.proofs.Common.{◌≡◌, ◌++◌, ◌≤◌, length, take, drop}
use Rattle.std.specs.List.{zip}
use Rattle.muxandu_c.specs.Batches.{values_of, status_of_items}
use Rattle.muxandu_c.specs.PairBatches.{of_pair}
use Rattle.muxandu_c.proofs.pair_batches.fill_pairs.Given as goal

-- the values so far and those of the pairs that are left are the values of all; what is behind them is as it was
abbrev pub invariant-loop-k : goal.invariant-loop-k
invariant-loop-k g l =
    let value_of = of_pair (g.P.Pairing.value_of l.pairing) in
    let pairs = zip l.firsts l.seconds in
    record {
      values : take l.k l.out ++ values_of value_of (drop l.k pairs) ≡ values_of value_of pairs;
      status : status_of_items value_of (drop l.k pairs) ≡ status_of_items value_of pairs;
      behind : drop l.k l.out ≡ drop l.k l.initial.out;
      room : length l.firsts ≤ length l.out;
      pairs : length l.firsts ≤ length l.seconds;
    }
