-- Zones: a table, and a cycle that may go on after it.
use Rattle.std.specs.Prelude.{◌≡◌, ℕ, ◌+◌, ◌<◌, ◌≤◌, ℤ, pos, neg_ℤ, ◌+ℤ◌, ◌-ℤ◌, ◌*ℤ◌, ◌≤ℤ◌, ◌<ℤ◌, List, [], length, unsigned_abs, Option, Some, None}
use Rattle.std.specs.Prelude.{option_map}
use Rattle.zones.specs.declared.time_type.TimeType.{TimeType}
use Rattle.zones.specs.declared.transition.Transition.{Transition}
use Rattle.zones.specs.declared.local_instants.LocalInstants.{LocalInstants}
use Rattle.zones.specs.declared.local_instants.LocalInstants.TheVariants.{Single}
use Rattle.zones.specs.declared.cycle.Cycle.{Cycle}
use Rattle.zones.specs.declared.tail.Tail.{Tail}
use Rattle.zones.specs.declared.zone_error.ZoneError.{ZoneError}
use Rattle.zones.specs.declared.zone_error.ZoneError.TheVariants.{Row, Rule}
use Rattle.zones.specs.Tables.{row_at, row_end, type_after, table_second, InTable, IsForward, GoesOnTo}
use Rattle.zones.specs.Cycles.{RunsForward, Always, moment_at, cycle_second, cycle_type, second_at, type_to, low_offset}
use Rattle.zones.specs.Clocks.{join, IsPlace, ShowsLocal, IsInstants, IsTypeAt, IsTransition, IsNext, IsLast, IsLastStarted, IsFirstAt}

-- the kind of local time before the first transition, the transitions of a table, and the cycle after them, if any
pub record ZoneParts : Type 0 where
  pub first : TimeType
  pub rows : List Transition
  pub tail : Option Tail

-- the place of the first moment after the table
abbrev pub tail_place : Tail → ℕ
tail_place tail = unsigned_abs (tail.moment +ℤ pos 2_399_000)

abbrev pub tail_second : Tail → ℕ → ℤ
tail_second tail k = second_at tail.cycle (tail_place tail + k)

abbrev pub tail_type : Tail → ℕ → TimeType
tail_type tail k = type_to tail.cycle (tail_place tail + k)

abbrev pub tail_offset : Tail → ℕ → ℤ
tail_offset tail k = (tail_type tail k).offset

-- the seconds of the transitions of a table and the cycle after it, and the kinds of local time before them
abbrev pub joined_second : List Transition → Tail → ℕ → ℤ
joined_second rows tail = join (length rows) (table_second rows) (tail_second tail)

abbrev pub joined_type : TimeType → List Transition → Tail → ℕ → TimeType
joined_type first rows tail = join (length rows) (type_after first rows) (tail_type tail)

-- the first moment of a cycle after a table: the next one after the last row, or one before all seconds if there are no rows
pub record IsFirstMoment (rows : List Transition) (c : Cycle) (m : ℤ) : Type 0 where
  pub at_first : length rows ≡ 0 → m ≡ neg_ℤ (pos 2_390_000)
  pub at_once : (k : ℕ) → k + 1 ≡ length rows → cycle_second c (m -ℤ pos 1) ≤ℤ table_second rows k
  pub follows : (k : ℕ) → k + 1 ≡ length rows → table_second rows k <ℤ cycle_second c m

-- the cycle goes on from the table
pub record IsJoined (first : TimeType) (rows : List Transition) (tail : Tail) : Type 0 where
  pub forward : IsForward first rows
  pub runs : RunsForward tail.cycle
  pub place : moment_at (tail_place tail) ≡ tail.moment
  pub begins : IsFirstMoment rows tail.cycle tail.moment
  pub meets : type_after first rows (length rows) ≡ tail_type tail 0
  pub clear : (k : ℕ) → k + 1 ≡ length rows → row_end (row_at rows k) ≤ℤ (tail_second tail 0 +ℤ low_offset tail.cycle)
  pub from_is : tail.from ≡ tail_second tail 0
  pub from_local_is : tail.from_local ≡ tail_second tail 0 +ℤ low_offset tail.cycle

-- the cycle does not go on from the table
abbrev pub NeverJoined : TimeType → List Transition → Cycle → Type 0
NeverJoined first rows c = (tail : Tail) → tail.cycle ≡ c → IsJoined first rows tail → ⊥

-- a table that runs forward, and a cycle that goes on from it, if any
abbrev pub IsZoneOf : TimeType → List Transition → Option Tail → Type 0
IsZoneOf first rows None = IsForward first rows
IsZoneOf first rows (Some tail) = IsJoined first rows tail

abbrev pub IsZone : ZoneParts → Type 0
IsZone z = IsZoneOf z.first z.rows z.tail

-- whether a zone has a transition at a place: a table ends, and a cycle does not
abbrev pub HasOf : List Transition → Option Tail → ℕ → Type 0
HasOf rows None = InTable rows
HasOf rows (Some tail) = Always

abbrev pub HasTransition : ZoneParts → ℕ → Type 0
HasTransition z = HasOf z.rows z.tail

-- the seconds of the transitions of a zone
abbrev pub seconds_of : List Transition → Option Tail → ℕ → ℤ
seconds_of rows None = table_second rows
seconds_of rows (Some tail) = joined_second rows tail

abbrev pub zone_second : ZoneParts → ℕ → ℤ
zone_second z = seconds_of z.rows z.tail

-- the kind of local time before each transition of a zone, and its offset
abbrev pub types_of : TimeType → List Transition → Option Tail → ℕ → TimeType
types_of first rows None = type_after first rows
types_of first rows (Some tail) = joined_type first rows tail

abbrev pub zone_type : ZoneParts → ℕ → TimeType
zone_type z = types_of z.first z.rows z.tail

abbrev pub zone_offset : ZoneParts → ℕ → ℤ
zone_offset z k = (zone_type z k).offset

-- the kind of local time at a second: that after the last transition at or before it
abbrev pub IsZoneType : ZoneParts → ℤ → TimeType → Type 0
IsZoneType z second found = IsTypeAt (HasTransition z) (zone_second z) (zone_type z) second found

-- its offset
abbrev pub IsZoneOffset : ZoneParts → ℤ → ℤ → Type 0
IsZoneOffset z second offset = (k : ℕ) × IsPlace (HasTransition z) (zone_second z) second k × (offset ≡ zone_offset z k)

-- the clocks of the zone show the wall clock at the second
abbrev pub ZoneShows : ZoneParts → ℤ → ℤ → Type 0
ZoneShows z local second = ShowsLocal (HasTransition z) (zone_second z) (zone_offset z) local second

-- these are all the seconds at which the clocks show the wall clock
abbrev pub IsZoneInstants : ZoneParts → ℤ → LocalInstants → Type 0
IsZoneInstants z local found = IsInstants (ZoneShows z local) (HasTransition z) (zone_second z) (zone_offset z) local found

-- the wall clock is at one second, by this kind of local time
abbrev pub IsSettledOf : TimeType → List Transition → Option Tail → ℤ → TimeType → Type 0
IsSettledOf first rows tail local kind =
    IsInstants (ShowsLocal (HasOf rows tail) (seconds_of rows tail) (λ k. (types_of first rows tail k).offset) local) (HasOf rows tail)
    (seconds_of rows tail) (λ k. (types_of first rows tail k).offset) local (Single (local -ℤ kind.offset))

abbrev pub IsZoneSettled : ZoneParts → ℤ → TimeType → Type 0
IsZoneSettled z local kind = IsSettledOf z.first z.rows z.tail local kind

-- the first transition after a second, and the last one at or before it
abbrev pub IsNextTransition : ZoneParts → ℤ → Option Transition → Type 0
IsNextTransition z second found = IsNext (HasTransition z) (zone_second z) (zone_type z) second found

abbrev pub IsLastTransition : ZoneParts → ℤ → Option Transition → Type 0
IsLastTransition z second found = IsLast (HasTransition z) (zone_second z) (zone_type z) second found

-- the last transition whose gap or fold has started at a wall clock
abbrev pub IsStartedTransition : ZoneParts → ℤ → Option Transition → Type 0
IsStartedTransition z local found = IsLastStarted (HasTransition z) (zone_second z) (zone_type z) local found

-- the zone has these parts, and the cycle after the table if there is one
pub record IsZoneBy (type : TimeType) (table : List Transition) (rule : Option Cycle) (z : ZoneParts) : Type 0 where
  pub first : z.first ≡ type
  pub rows : z.rows ≡ table
  pub cycle : option_map (λ (t : Tail). t.cycle) z.tail ≡ rule
  pub is_zone : IsZone z

-- the zone has a rule that holds at all times
abbrev pub IsRuleZone : Cycle → ZoneParts → Type 0
IsRuleZone c z = IsZoneBy (cycle_type c (neg_ℤ (pos 2_390_000))) [] (Some c) z

-- a table and a rule make no zone for this reason: the row at that place does not go on, or the rule does not
abbrev pub IsFault : TimeType → List Transition → Option Cycle → ZoneError → Type 0
IsFault first rows rule (Row place) = GoesOnTo first rows place × (place < length rows)
IsFault first rows rule Rule = IsForward first rows × ((c : Cycle) × (rule ≡ Some c) × NeverJoined first rows c)

-- a zone with one kind of local time
abbrev pub fixed_zone : TimeType → ZoneParts
fixed_zone first = record {
  first = first;
  rows = [];
  tail = None;
}

-- the first second at which the clocks of the zone show the wall clock or a later one
abbrev pub IsZoneFirst : ZoneParts → ℤ → ℤ → Type 0
IsZoneFirst z local t = IsFirstAt (HasTransition z) (zone_second z) (zone_offset z) local t

-- a day of 86,400 seconds on clocks in UTC whose first wall clock a zone knows, moment_at from 1970-01-01
abbrev pub IsZoneDay : ℤ → Type 0
IsZoneDay day = (neg_ℤ (pos 400_000_000) ≤ℤ day) × (day ≤ℤ pos 400_000_000)

-- the first second of a day on the clocks of the zone; of a day that they skip, that of the next day
abbrev pub IsDayStart : ZoneParts → ℤ → ℤ → Type 0
IsDayStart z day t = IsZoneFirst z (day *ℤ pos 86_400) t

-- how long a day lasts on the clocks of the zone, up to the start of the next one
abbrev pub IsDayLength : ZoneParts → ℤ → ℤ → Type 0
IsDayLength z day seconds = (s : ℤ) × (t : ℤ) × IsDayStart z day s × IsDayStart z (day +ℤ pos 1) t × (seconds ≡ t -ℤ s)

-- transitions one after another in a list, from this place of the zone on, are those up to and including a second, or as many as
-- the list has room for; the rest of the list is as it was
pub record AreWritten (z : ZoneParts) (until : ℤ) (old new : List Transition) (place count : ℕ) : Type 0 where
  pub bound : count ≤ length new
  pub each : (i : ℕ) → i < count → HasTransition z (place + i) × (zone_second z (place + i) ≤ℤ until) × IsTransition (zone_second z) (zone_type z)
      (place + i) (row_at new i)
  pub kept : (i : ℕ) → count ≤ i → row_at new i ≡ row_at old i

-- this many transitions after one second and up to another are written
pub record AreBetween (z : ZoneParts) (from until : ℤ) (old new : List Transition) (count : ℕ) : Type 0 where
  pub place : ℕ
  pub begin : IsPlace (HasTransition z) (zone_second z) from place
  pub written : AreWritten z until old new place count
  pub rest : count < length new → HasTransition z (place + count) → until <ℤ zone_second z (place + count)
