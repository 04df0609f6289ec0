-- Wall clocks of time zones that a caller keeps as numbers, and the instants that have them.
use Rattle.std.specs.Prelude.{◌≡◌, ℕ, ℤ, pos, List, Result, Ok, Err}
use Rattle.calendar_values.specs.Clock.{nanosecond_of}
use Rattle.calendar_values.specs.WallClock.{wall_time, unix_seconds_of}
use Rattle.offset_times.specs.Local.{Local, instant_of, wall_at}
use Rattle.zones.specs.Zones.{ZoneParts}
use Rattle.zoned_times.specs.Zoned.{AreTimesOf}
use Rattle.zoned_times.specs.declared.local_refusal.LocalRefusal.{LocalRefusal}
use Rattle.zoned_times.specs.declared.local_times.LocalTimes.{LocalTimes}
use Rattle.zoned_times.specs.declared.local_times.LocalTimes.TheVariants as local_times
use Rattle.muxandu_c.specs.Values.{date_time_parts, date_time_value}
use Rattle.muxandu_c.specs.ZoneChoices.{choice_numbered, chosen_of, error_of}
use Rattle.muxandu_c.specs.ZoneOffsets.{After, InZone}
use Rattle.muxandu_c.specs.ZoneTimes.{OfZone}
use Rattle.muxandu_c.specs.declared.refused.Refused.{Refused}
use Rattle.muxandu_c.specs.declared.values.MuxanduDateTime.{MuxanduDateTime}
use Rattle.muxandu_c.specs.declared.zone_choices.Choice.{Choice}
use Rattle.muxandu_c.specs.declared.zone_instants.MuxanduZoneInstants.{MuxanduZoneInstants}
use Rattle.muxandu_c.specs.declared.zone_numbers.MuxanduTransition.{MuxanduTransition}
use Rattle.muxandu_c.specs.declared.zone_numbers.MuxanduZone.{MuxanduZone}

-- the numbers of two instants
abbrev pub instants_as : ℕ → Local → Local → ℤ → MuxanduZoneInstants
instants_as count earlier later gap_second = record {
  earlier_seconds = unix_seconds_of (instant_of earlier);
  later_seconds = unix_seconds_of (instant_of later);
  gap_second = gap_second;
  nanoseconds = nanosecond_of (wall_time earlier.wall);
  earlier_offset_seconds = earlier.offset;
  later_offset_seconds = later.offset;
  count = count;
}

-- the numbers of the instants of a wall clock: in a gap of those that the offsets after and before it make of the wall clock
abbrev pub instants_of_times : ℤ → LocalTimes → MuxanduZoneInstants
instants_of_times wall (local_times.Single at) = instants_as 1 at at (pos 0)
instants_of_times wall (local_times.Fold earlier later) = instants_as 2 earlier later (pos 0)
instants_of_times wall (local_times.Gap gap earlier later) = instants_as 0 (wall_at wall gap.after) (wall_at wall gap.before) gap.second

-- these are the numbers of all instants at which the clocks of a zone show a wall clock
abbrev pub AreInstants : ZoneParts → ℤ → MuxanduZoneInstants → Type 0
AreInstants z wall found = (times : LocalTimes) × AreTimesOf z wall times × (found ≡ instants_of_times wall times)

-- the parts of the date-time that a choice took, or why it took none
abbrev pub choice_parts : Result Local LocalRefusal → Result MuxanduDateTime Refused
choice_parts (Ok at) = Ok (date_time_parts at)
choice_parts (Err refusal) = Err (error_of refusal)

-- a choice takes this one of all date-times of a zone with a wall clock, or none
abbrev pub IsChosen : ZoneParts → ℤ → Choice → Result MuxanduDateTime Refused → Type 0
IsChosen z wall choice result = (times : LocalTimes) × AreTimesOf z wall times × (result ≡ choice_parts (chosen_of choice times))

-- the same of the number of a choice
abbrev pub IsChosenThen : ZoneParts → ℤ → ℕ → Result MuxanduDateTime Refused → Type 0
IsChosenThen z wall number = After (choice_numbered number) (λ choice. IsChosen z wall choice)

-- the same of the zone for which numbers stand, of the number of a choice, and of the wall clock of a date-time
abbrev pub AreInstantsIn : MuxanduZone → List MuxanduTransition → ℤ → Result MuxanduZoneInstants Refused → Type 0
AreInstantsIn zone table wall = InZone zone table (λ z found. AreInstants z wall found)

abbrev pub AreInstantsOf : MuxanduZone → List MuxanduTransition → MuxanduDateTime → Result MuxanduZoneInstants Refused → Type 0
AreInstantsOf zone table local = After (date_time_value local) (λ at. AreInstantsIn zone table at.wall)

abbrev pub IsChosenIn : MuxanduZone → List MuxanduTransition → ℤ → Choice → Result MuxanduDateTime Refused → Type 0
IsChosenIn zone table wall choice = OfZone zone table (λ z. IsChosen z wall choice)

abbrev pub IsChosenBy : MuxanduZone → List MuxanduTransition → ℤ → ℕ → Result MuxanduDateTime Refused → Type 0
IsChosenBy zone table wall number = After (choice_numbered number) (λ choice. IsChosenIn zone table wall choice)

abbrev pub IsChosenOf : MuxanduZone → List MuxanduTransition → MuxanduDateTime → ℕ → Result MuxanduDateTime Refused → Type 0
IsChosenOf zone table local number = After (date_time_value local) (λ at. IsChosenBy zone table at.wall number)
