use Rattle.std.proofs.Common.{◌≡◌, drop, take}
use Rattle.stamp_times.specs.Travel.{held_instant, held_after, stop_index}
use Rattle.stamp_times.proofs.TravelLemmas.{later}
use Rattle.stamp_times.proofs.chains.chain.Given as goal

-- the instant is kept, the steps so far led here, and the chain stops where the steps that are left do
abbrev pub invariant-loop-index : goal.invariant-loop-index
invariant-loop-index l =
    let i = held_instant l.fn.start in
    record {
      instant : held_instant l.held ≡ i;
      here : l.held ≡ held_after l.fn.start i (take l.index l.steps);
      stops : stop_index i l.steps ≡ later l.index (stop_index i (drop l.index l.steps));
    }
