use Rattle.std.proofs.Common.{length, ◌-◌, ◌≡◌, ℕ, ◌+◌}
use Rattle.zones.specs.Clocks.{IsPlace}
use Rattle.zones.specs.Zones.{HasTransition, zone_second, AreWritten}
use Rattle.zones.proofs.BetweenLemmas.{NextIs}
use Rattle.zones.proofs.zone.Zone.transitions_between.Given as goal

abbrev pub invariant-rows : goal.invariant-rows
invariant-rows l = record {
  size : length l.room ≡ length l.initial.room;
  found : (p : ℕ) × IsPlace (HasTransition l.self) (zone_second l.self) l.from p
      × AreWritten l.self l.until l.initial.room l.room p l.count × NextIs l.self (p + l.count) l.next;
}

abbrev pub decreases-rows : goal.decreases-rows
decreases-rows l = length l.initial.room - l.count
