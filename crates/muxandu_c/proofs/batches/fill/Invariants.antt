use Rattle.std.proofs.Common.{◌≡◌, ◌++◌, ◌≤◌, length, take, drop}
use Rattle.muxandu_c.specs.Batches.{values_of, status_of_items}
use Rattle.muxandu_c.proofs.batches.fill.Given as goal

-- the values so far and those of the items that are left are the values of all; what is behind them is as it was
abbrev pub invariant-loop-k : goal.invariant-loop-k
invariant-loop-k g l =
    let value_of = g.C.Conversion.value_of l.conversion in
    record {
      values : take l.k l.out ++ values_of value_of (drop l.k l.items) ≡ values_of value_of l.items;
      status : status_of_items value_of (drop l.k l.items) ≡ status_of_items value_of l.items;
      behind : drop l.k l.out ≡ drop l.k l.initial.out;
      room : length l.items ≤ length l.out;
    }
