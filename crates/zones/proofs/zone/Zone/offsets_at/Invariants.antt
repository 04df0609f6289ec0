use Rattle.std.proofs.Common.{◌≡◌, ◌≤◌, ◌<◌, ◌-◌, ℕ, pos, length, get_or}
use Rattle.zones.specs.Intervals.{Holds}
use Rattle.zones.specs.Zones.{IsZoneOffset}
use Rattle.zones.proofs.zone.Zone.offsets_at.Given as goal

abbrev pub invariant-seconds : goal.invariant-seconds
invariant-seconds l = record {
  size : length l.room ≡ length l.initial.room;
  bound : l.count ≤ length l.seconds;
  inside : l.count ≤ length l.room;
  holds : Holds l.self l.kept;
  each : (i : ℕ) → i < l.count → IsZoneOffset l.self (get_or l.seconds i (pos 0)) (get_or l.room i (pos 0));
  rest : (i : ℕ) → l.count ≤ i → get_or l.room i (pos 0) ≡ get_or l.initial.room i (pos 0);
}

abbrev pub decreases-seconds : goal.decreases-seconds
decreases-seconds l = length l.initial.room - l.count
