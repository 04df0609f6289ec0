use Rattle.std.proofs.Common.{◌≡◌, ◌≤◌, length, take, drop}
use Rattle.zones.specs.Intervals.{Holds}
use Rattle.muxandu_c.specs.ZoneBatches.{IsOffsetIn}
use Rattle.muxandu_c.proofs.ValuesLemmas.{GoBefore}
use Rattle.muxandu_c.proofs.zone_batches.fill_offsets.Given as goal

-- the values so far go before those of the seconds that are left; what is behind them is as it was
abbrev pub invariant-loop-k : goal.invariant-loop-k
invariant-loop-k l =
    record {
      values : GoBefore (IsOffsetIn l.zone) l.seconds l.k (take l.k l.out);
      behind : drop l.k l.out ≡ drop l.k l.initial.out;
      room : length l.seconds ≤ length l.out;
      kept : Holds l.zone l.kept;
    }
