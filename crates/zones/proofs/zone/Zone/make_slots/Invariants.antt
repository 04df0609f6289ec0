use Rattle.std.proofs.Common.{◌≡◌, length}
use Rattle.zones.specs.Intervals.{Holds}
use Rattle.zones.specs.Slots.{AreSlots}
use Rattle.zones.proofs.zone.Zone.make_slots.Given as goal

-- the slots so far are right, and the interval that is kept holds
abbrev pub invariant-each : goal.invariant-each
invariant-each l = record {
  holds : Holds l.self l.kept;
  right : AreSlots l.self l.slots.items;
  count : length l.slots.items ≡ l.place;
}
