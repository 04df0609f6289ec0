use Rattle.std.proofs.Common.{◌≡◌, ◌≤◌, length, take, drop}
use Rattle.muxandu_c.proofs.ValuesLemmas.{GoBefore}
use Rattle.muxandu_c.proofs.zone_batches.fill_in_zone.Given as goal

-- the values so far go before those of the items that are left; what is behind them is as it was
abbrev pub invariant-loop-k : goal.invariant-loop-k
invariant-loop-k g l =
    record {
      values : GoBefore (g.C.InZone.makes l.maker l.zone) l.items l.k (take l.k l.out);
      behind : drop l.k l.out ≡ drop l.k l.initial.out;
      room : length l.items ≤ length l.out;
    }
