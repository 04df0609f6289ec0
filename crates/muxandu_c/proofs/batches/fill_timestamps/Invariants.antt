use Rattle.std.proofs.Common.{◌≡◌, ◌≤◌, length, take, drop}
use Rattle.muxandu_c.specs.Exchange.{IsReadAt}
use Rattle.muxandu_c.proofs.ValuesLemmas.{GoBefore}
use Rattle.muxandu_c.proofs.batches.fill_timestamps.Given as goal

-- the values so far go before those of the spans that are left; what is behind them is as it was
abbrev pub invariant-loop-k : goal.invariant-loop-k
invariant-loop-k l =
    record {
      values : GoBefore (IsReadAt l.texts) l.spans l.k (take l.k l.out);
      behind : drop l.k l.out ≡ drop l.k l.initial.out;
      room : length l.spans ≤ length l.out;
    }
