-- Time zones as numbers that a caller keeps.
use Rattle.std.specs.Prelude.{◌≡◌, ◌⊎◌, ℕ, ◌≤◌, ◌<◌, ℤ, pos, Bool, true, false, List, length, get_or, Option, Some, None}
use Rattle.calendar_values.specs.Month.{month_number}
use Rattle.zones.specs.Tables.{row_at}
use Rattle.zones.specs.Zones.{ZoneParts, IsZoneBy, IsFault}
use Rattle.zones.specs.declared.cycle.Cycle.{Cycle}
use Rattle.zones.specs.declared.moment.Moment.{Moment}
use Rattle.zones.specs.declared.rule_day.RuleDay.{RuleDay}
use Rattle.zones.specs.declared.rule_day.RuleDay.TheVariants as days
use Rattle.zones.specs.declared.time_type.TimeType.{TimeType}
use Rattle.zones.specs.declared.transition.Transition.{Transition}
use Rattle.zones.specs.declared.zone_error.ZoneError.{ZoneError}
use Rattle.muxandu_c.specs.declared.refused.Refused.{Refused}
use Rattle.muxandu_c.specs.declared.refused.Refused.TheVariants as refused
use Rattle.muxandu_c.specs.declared.zone_numbers.MuxanduTransition.{MuxanduTransition}
use Rattle.muxandu_c.specs.declared.zone_numbers.MuxanduZone.{MuxanduZone}

-- the number of the mark of daylight saving time
abbrev pub mark_of : Bool → ℕ
mark_of true = 1
mark_of false = 0

-- a kind of local time has these numbers
pub record IsTypeOf (offset : ℤ) (designation mark : ℕ) (t : TimeType) : Type 0 where
  pub offset_is : t.offset ≡ offset
  pub designation_is : t.designation ≡ designation
  pub mark_is : mark_of t.is_daylight ≡ mark

-- a transition has these numbers
pub record IsTransitionOf (row : MuxanduTransition) (t : Transition) : Type 0 where
  pub second_is : t.second ≡ row.second
  pub before_is : IsTypeOf row.before_offset_seconds row.before_designation row.before_is_daylight t.before
  pub after_is : IsTypeOf row.after_offset_seconds row.after_designation row.after_is_daylight t.after

-- what stands for the numbers of a transition past the end of a table
abbrev pub no_numbers : MuxanduTransition
no_numbers = record {
  second = pos 0;
  before_offset_seconds = pos 0;
  after_offset_seconds = pos 0;
  before_designation = 0;
  after_designation = 0;
  before_is_daylight = 0;
  after_is_daylight = 0;
}

-- the numbers of the transition at a place of a table
abbrev pub numbers_at : List MuxanduTransition → ℕ → MuxanduTransition
numbers_at table i = get_or table i no_numbers

-- the transitions of a table of numbers
pub record AreTransitionsOf (table : List MuxanduTransition) (rows : List Transition) : Type 0 where
  pub count : length rows ≡ length table
  pub each : (i : ℕ) → i < length table → IsTransitionOf (numbers_at table i) (row_at rows i)

-- a day of each year has these numbers
abbrev pub IsDayOf : (kind month week weekday day : ℕ) → RuleDay → Type 0
IsDayOf kind month week weekday day (days.Weekday m w d) = (kind ≡ 1) × (month_number m ≡ month) × (w ≡ week) × (d ≡ weekday)
IsDayOf kind month week weekday day (days.Common n) = (kind ≡ 2) × (n ≡ day)
IsDayOf kind month week weekday day (days.Counted n) = (kind ≡ 3) × (n ≡ day)

-- the first moment of each year of a rule has the numbers of a zone, and so has the second
pub record IsFirstOf (zone : MuxanduZone) (moment : Moment) (after : TimeType) : Type 0 where
  pub day_is : IsDayOf zone.first_kind zone.first_month zone.first_week zone.first_weekday zone.first_day moment.day
  pub time_is : moment.time ≡ zone.first_time
  pub after_is : IsTypeOf zone.first_offset_seconds zone.first_designation zone.first_is_daylight after

pub record IsSecondOf (zone : MuxanduZone) (moment : Moment) (after : TimeType) : Type 0 where
  pub day_is : IsDayOf zone.second_kind zone.second_month zone.second_week zone.second_weekday zone.second_day moment.day
  pub time_is : moment.time ≡ zone.second_time
  pub after_is : IsTypeOf zone.second_offset_seconds zone.second_designation zone.second_is_daylight after

-- a rule has the numbers of a zone
pub record IsCycleOf (zone : MuxanduZone) (c : Cycle) : Type 0 where
  pub first_is : IsFirstOf zone c.first c.after_first
  pub second_is : IsSecondOf zone c.second c.after_second

-- the rule of a zone, if it has one
abbrev pub IsRuleOf : MuxanduZone → Option Cycle → Type 0
IsRuleOf zone None = zone.has_rule ≡ 0
IsRuleOf zone (Some c) = (zone.has_rule ≡ 1) × IsCycleOf zone c

-- the numbers of a zone and a table, of 512 transitions at most, have these parts: the kind of local time before the first
-- transition, the transitions, and the rule after them
pub record AreParts (zone : MuxanduZone) (table : List MuxanduTransition) (first : TimeType) (rows : List Transition) (rule : Option Cycle) : Type 0 where
  pub few : length table ≤ 512
  pub first_is : IsTypeOf zone.offset_seconds zone.designation zone.is_daylight first
  pub rows_are : AreTransitionsOf table rows
  pub rule_is : IsRuleOf zone rule

-- they stand for a time zone: it has their parts
pub record StandsFor (zone : MuxanduZone) (table : List MuxanduTransition) (z : ZoneParts) : Type 0 where
  pub first : TimeType
  pub rows : List Transition
  pub rule : Option Cycle
  pub parts : AreParts zone table first rows rule
  pub is_zone : IsZoneBy first rows rule z

-- they have no parts
abbrev pub NoParts : MuxanduZone → List MuxanduTransition → Type 0
NoParts zone table = (first : TimeType) (rows : List Transition) (rule : Option Cycle) → AreParts zone table first rows rule → ⊥

-- or their parts make no zone
pub record NeverZone (zone : MuxanduZone) (table : List MuxanduTransition) : Type 0 where
  pub first : TimeType
  pub rows : List Transition
  pub rule : Option Cycle
  pub fault : ZoneError
  pub parts : AreParts zone table first rows rule
  pub is_fault : IsFault first rows rule fault

-- the error of numbers that stand for no zone
abbrev pub IsNoZone : MuxanduZone → List MuxanduTransition → Refused → Type 0
IsNoZone zone table e = (e ≡ refused.Zone) × (NoParts zone table ⊎ NeverZone zone table)

-- and of numbers that are no table, or no rule
abbrev pub IsNoTable : List MuxanduTransition → Refused → Type 0
IsNoTable table e = (e ≡ refused.Zone) × ((zone : MuxanduZone) → NoParts zone table)

abbrev pub IsNoRule : MuxanduZone → Refused → Type 0
IsNoRule zone e = (e ≡ refused.Zone) × ((rule : Option Cycle) → IsRuleOf zone rule → ⊥)
