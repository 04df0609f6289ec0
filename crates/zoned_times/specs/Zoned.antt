-- The clocks of a zone in nanoseconds: the offset at an instant, and the date-times of a wall clock.
use Rattle.std.specs.Prelude.{◌≡◌, ◌⊎◌, ℕ, ◌+◌, ℤ, pos, ◌+ℤ◌, ◌-ℤ◌, ◌*ℤ◌, ◌≤ℤ◌, ◌<ℤ◌, Option, Some, None}
use Rattle.calendar_values.specs.Clock.{nanos_per_day}
use Rattle.calendar_values.specs.Months.{months_later}
use Rattle.calendar_values.specs.WallClock.{wall_clock, wall_day, wall_time, IsWallClock}
use Rattle.offset_times.specs.Local.{Local, instant_of, offset_nanos, shown_at, ShownAt}
use Rattle.utc_times.specs.UnixTime.{instant_of_second}
use Rattle.zones.specs.Clocks.{IsPlace, IsTransition, IsLastBy}
use Rattle.zones.specs.Zones.{ZoneParts, HasTransition, zone_second, zone_type, zone_offset}
use Rattle.zones.specs.declared.transition.Transition.{Transition}
use Rattle.zoned_times.specs.Gaps.{gap_start, gap_end}
use Rattle.zoned_times.specs.declared.gap.Gap.{Gap}
use Rattle.zoned_times.specs.declared.local_times.LocalTimes.{LocalTimes}
use Rattle.zoned_times.specs.declared.local_times.LocalTimes.TheVariants as local_times

-- the instant of the transition at a place
abbrev pub transition_instant : ZoneParts → ℕ → ℤ
transition_instant z k = instant_of_second (zone_second z k)

-- the offset of the zone at an instant: that after the last transition at or before it
abbrev pub HasOffset : ZoneParts → ℤ → ℤ → Type 0
HasOffset z instant o = (k : ℕ) × IsPlace (HasTransition z) (transition_instant z) instant k × (o ≡ zone_offset z k)

-- the result is an instant at the offset of the zone then, or None exactly if its wall clock there is out of range
abbrev pub ShownIn : ZoneParts → ℤ → Option Local → Type 0
ShownIn z instant result = (o : ℤ) × HasOffset z instant o × ShownAt result instant o

-- the clocks of the zone show the date-time: its offset is that of the zone at its instant
abbrev pub IsOfZone : ZoneParts → Local → Type 0
IsOfZone z at = HasOffset z (instant_of at) at.offset

-- the clocks of the zone show the date-time, and it has this wall clock
abbrev pub Shows : ZoneParts → ℤ → Local → Type 0
Shows z wall at = (at.wall ≡ wall) × IsOfZone z at

-- a transition of the zone skips the wall clock
pub record IsGap (z : ZoneParts) (wall : ℤ) (gap : Gap) : Type 0 where
  pub place : ℕ
  pub has : HasTransition z place
  pub second : gap.second ≡ zone_second z place
  pub before : gap.before ≡ zone_offset z place
  pub after : gap.after ≡ zone_offset z (place + 1)
  pub begun : gap_start gap ≤ℤ wall
  pub not_over : wall <ℤ gap_end gap

-- these are all the date-times of the zone with the wall clock; in a gap, where there are none, the two instants that the offsets
-- after and before it make of the wall clock, as the zone shows them
abbrev pub AreTimesOf : ZoneParts → ℤ → LocalTimes → Type 0
AreTimesOf z wall (local_times.Single at) = Shows z wall at × ((v : Local) → Shows z wall v → v ≡ at)
AreTimesOf z wall (local_times.Fold earlier later) =
    (instant_of earlier <ℤ instant_of later) × Shows z wall earlier × Shows z wall later × ((v : Local) → Shows z wall v →
    (v ≡ earlier) ⊎ (v ≡ later))
AreTimesOf z wall (local_times.Gap gap earlier later) =
    ((v : Local) → Shows z wall v → ⊥) × IsGap z wall gap × ShownIn z (wall -ℤ offset_nanos gap.after) earlier
    × ShownIn z (wall -ℤ offset_nanos gap.before) later

-- the date-times of a later wall clock, or None exactly if that or the present wall clock is out of range
abbrev pub AreIfAny : ZoneParts → ℤ → ℤ → Option LocalTimes → Type 0
AreIfAny z now later None = IsWallClock now → IsWallClock later → ⊥
AreIfAny z now later (Some times) = IsWallClock now × IsWallClock later × AreTimesOf z later times

-- the date-times of the zone with the wall clock of an instant a number of days later
abbrev pub AreDaysLater : ZoneParts → ℤ → ℤ → Option LocalTimes → Type 0
AreDaysLater z instant days result =
    (o : ℤ) × HasOffset z instant o × AreIfAny z (shown_at instant o) (shown_at instant o +ℤ days *ℤ pos nanos_per_day) result

-- a wall clock at the same time of day a number of months later, or on the month's last day if the month is shorter
abbrev pub wall_months_later : ℤ → ℤ → ℤ
wall_months_later w months = wall_clock (months_later (wall_day w) months) (wall_time w)

-- the date-times of the zone with the wall clock of an instant a number of months later
abbrev pub AreMonthsLater : ZoneParts → ℤ → ℤ → Option LocalTimes → Type 0
AreMonthsLater z instant months result =
    (o : ℤ) × HasOffset z instant o × AreIfAny z (shown_at instant o) (wall_months_later (shown_at instant o) months) result

-- the first instant at which the clocks of the zone show the wall clock or a later one
pub record IsFirstOf (z : ZoneParts) (wall instant : ℤ) : Type 0 where
  pub offset : ℤ
  pub has : HasOffset z instant offset
  pub reached : wall ≤ℤ shown_at instant offset
  pub before : (j o : ℤ) → j <ℤ instant → HasOffset z j o → shown_at j o <ℤ wall

-- the first date-time of a day in the zone, or None exactly if its wall clock is out of range; of a day that clocks skip, that of
-- the next day
abbrev pub IsStartOfDay : ZoneParts → ℤ → Option Local → Type 0
IsStartOfDay z day result = (i : ℤ) × IsFirstOf z (wall_clock day 0) i × ShownIn z i result

-- how long a day lasts in the zone, up to the start of the next one
abbrev pub IsLengthOfDay : ZoneParts → ℤ → ℤ → Type 0
IsLengthOfDay z day length =
    (i : ℤ) × (j : ℤ) × IsFirstOf z (wall_clock day 0) i × IsFirstOf z (wall_clock (day +ℤ pos 1) 0) j × (length ≡ j -ℤ i)

-- the first transition after an instant, or none if there is none
abbrev pub IsNextAfter : ZoneParts → ℤ → Option Transition → Type 0
IsNextAfter z instant None = (k : ℕ) × IsPlace (HasTransition z) (transition_instant z) instant k × (HasTransition z k → ⊥)
IsNextAfter z instant (Some found) =
    (k : ℕ) × IsPlace (HasTransition z) (transition_instant z) instant k × HasTransition z k × IsTransition (zone_second z) (zone_type z) k found

-- the last transition before an instant, or none if there is none
abbrev pub IsLastBefore : ZoneParts → ℤ → Option Transition → Type 0
IsLastBefore z instant found =
    IsLastBy (HasTransition z) (transition_instant z) (zone_second z) (zone_type z) (instant -ℤ pos 1) found
