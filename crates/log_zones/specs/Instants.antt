-- The instants of wall clocks in a zone, each in nanoseconds.
use Rattle.std.specs.Prelude.{◌≡◌, ℤ, pos, ◌+ℤ◌, ◌-ℤ◌, ◌*ℤ◌, ◌≤ℤ◌, Option, Some, None, Result, Ok, Err}
use Rattle.calendar_values.specs.Clock.{nanos_per_second}
use Rattle.calendar_values.specs.WallClock.{unix_seconds_of}
use Rattle.log_zones.specs.Earliest.{earliest_second}
use Rattle.log_zones.specs.declared.instants.NoInstant.{NoInstant}
use Rattle.log_zones.specs.declared.instants.NoInstant.TheVariants.{Skipped, OutOfRange}
use Rattle.plain_times.specs.Sums.{wall_clock_if_any}
use Rattle.zones.specs.Zones.{ZoneParts, IsZone, ZoneShows}

-- an instant that may be out of range
abbrev pub in_range : Option ℤ → Result ℤ NoInstant
in_range (Some i) = Ok i
in_range None = Err OutOfRange

-- the instant at which clocks show a wall clock, by the second at which they show its second: as far from that as in UTC
abbrev pub instant_by : ℤ → Option ℤ → Result ℤ NoInstant
instant_by wall (Some t) = in_range (wall_clock_if_any (wall +ℤ (t -ℤ unix_seconds_of wall) *ℤ pos nanos_per_second))
instant_by wall None = Err Skipped

-- the earliest instant at which the clocks of a zone show a wall clock
unfoldable pub zone_instant : ZoneParts → ℤ → Result ℤ NoInstant
zone_instant z wall = instant_by wall (earliest_second z (unix_seconds_of wall))

-- the clocks of the zone show the wall clock at the instant: they show its second at that of the instant, and as much of the
-- second has passed
pub record ShowsWall (z : ZoneParts) (wall i : ℤ) : Type 0 where
  pub second : ZoneShows z (unix_seconds_of wall) (unix_seconds_of i)
  pub rest : i -ℤ unix_seconds_of i *ℤ pos nanos_per_second ≡ wall -ℤ unix_seconds_of wall *ℤ pos nanos_per_second

-- the clocks show what was written: at the instant of a wall clock the clocks of the zone show it, and at no earlier instant
pub record ClocksShowIt : Type 0 where
  pub shown : (z : ZoneParts) → IsZone z → (wall i : ℤ) → zone_instant z wall ≡ Ok i → ShowsWall z wall i
  pub earliest : (z : ZoneParts) → IsZone z → (wall i other : ℤ) → zone_instant z wall ≡ Ok i → ShowsWall z wall other → i ≤ℤ other

-- a wall clock that has no instant is never shown
abbrev pub SkippedIsNeverShown : Type 0
SkippedIsNeverShown = (z : ZoneParts) → IsZone z → (wall i : ℤ) → zone_instant z wall ≡ Err Skipped → ShowsWall z wall i → ⊥
