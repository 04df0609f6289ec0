use Rattle.std.proofs.Common.{◌≡◌, ◌+◌, ◌++◌, ◌≤◌, length, take, drop}
use Rattle.muxandu_c.specs.EachBatches.{written_each, status_of_each, count_of_values}
use Rattle.muxandu_c.proofs.each_batches.fill_each.Given as goal

-- what was done so far and what is left to do are all; the statuses behind are as they were
abbrev pub invariant-loop-k : goal.invariant-loop-k
invariant-loop-k g l =
    let value_of = g.C.Conversion.value_of l.conversion in
    record {
      written : take l.k l.out ++ written_each value_of (drop l.k l.items) (drop l.k l.out) ≡ written_each value_of l.items l.initial.out;
      statuses : take l.k l.statuses ++ status_of_each value_of (drop l.k l.items) ≡ status_of_each value_of l.items;
      behind : drop l.k l.statuses ≡ drop l.k l.initial.statuses;
      count : l.count + count_of_values value_of (drop l.k l.items) ≡ count_of_values value_of l.items;
      at_most : l.count ≤ l.k;
      out_room : length l.items ≤ length l.out;
      statuses_room : length l.items ≤ length l.statuses;
    }
