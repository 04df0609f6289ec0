-- Meetings at a time of day in a zone.
use Rattle.std.specs.Prelude.{◌≡◌, ℤ, pos, ◌+ℤ◌, ◌-ℤ◌, ◌*ℤ◌, Ok}
use Rattle.calendar_values.specs.Clock.{nanos_per_day}
use Rattle.offset_times.specs.Local.{Local, instant_of, shown_at}
use Rattle.zones.specs.Zones.{ZoneParts}
use Rattle.zoned_times.specs.Choices.{compatible_of}
use Rattle.zoned_times.specs.Zoned.{HasOffset, AreTimesOf}
use Rattle.zoned_times.specs.declared.local_times.LocalTimes.{LocalTimes}

-- the date-time of the zone with the wall clock; the first of two, and in a gap the one after it
pub record IsAt (z : ZoneParts) (wall : ℤ) (at : Local) : Type 0 where
  pub times : LocalTimes
  pub are : AreTimesOf z wall times
  pub taken : compatible_of times ≡ Ok at

-- the date-time of the zone a day after an instant, at the same time by its clocks
pub record IsDayAfter (z : ZoneParts) (instant : ℤ) (next : Local) : Type 0 where
  pub offset : ℤ
  pub has : HasOffset z instant offset
  pub later : IsAt z (shown_at instant offset +ℤ pos 1 *ℤ pos nanos_per_day) next

-- how long it is from one wall clock of the zone to another
pub record IsBetween (z : ZoneParts) (from until duration : ℤ) : Type 0 where
  pub first : Local
  pub last : Local
  pub begins : IsAt z from first
  pub ends : IsAt z until last
  pub between : duration ≡ instant_of last -ℤ instant_of first
