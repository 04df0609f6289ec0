-- Choices and months on the clocks of a zone.
use Rattle.std.specs.Prelude.{◌≡◌, ℤ, pos, Ok}
use Rattle.offset_times.specs.Local.{Local, shown_at}
use Rattle.zones.specs.Zones.{ZoneParts}
use Rattle.zoned_times.specs.Choices.{earlier_of, later_of, only_of}
use Rattle.zoned_times.specs.Zoned.{HasOffset, AreTimesOf, wall_months_later}
use Rattle.zoned_times.specs.declared.local_times.LocalTimes.{LocalTimes}
use Rattle.zone_uses.specs.Meetings.{IsAt}

-- the date-time of the zone a month after an instant, at the same time by its clocks
pub record IsMonthAfter (z : ZoneParts) (instant : ℤ) (next : Local) : Type 0 where
  pub offset : ℤ
  pub has : HasOffset z instant offset
  pub later : IsAt z (wall_months_later (shown_at instant offset) (pos 1)) next

-- the only date-time of the zone with the wall clock, the earlier one, and the later one
pub record IsOnly (z : ZoneParts) (wall : ℤ) (at : Local) : Type 0 where
  pub times : LocalTimes
  pub are : AreTimesOf z wall times
  pub taken : only_of times ≡ Ok at

pub record IsEarlier (z : ZoneParts) (wall : ℤ) (at : Local) : Type 0 where
  pub times : LocalTimes
  pub are : AreTimesOf z wall times
  pub taken : earlier_of times ≡ Ok at

pub record IsLater (z : ZoneParts) (wall : ℤ) (at : Local) : Type 0 where
  pub times : LocalTimes
  pub are : AreTimesOf z wall times
  pub taken : later_of times ≡ Ok at
