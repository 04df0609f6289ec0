use Rattle.std.proofs.Common.{◌≡◌, drop}
use Rattle.stamp_times.specs.Travel.{held_instant, stop_index}
use Rattle.stamp_times.proofs.TravelLemmas.{later}
use Rattle.stamp_times.proofs.chains.held_after.Given as goal

-- the chain stops where the steps that are left do
abbrev pub invariant-loop-step : goal.invariant-loop-step
invariant-loop-step l =
    let i = held_instant l.fn.start in
    stop_index i l.steps ≡ later l.step-index (stop_index i (drop l.step-index l.steps))
