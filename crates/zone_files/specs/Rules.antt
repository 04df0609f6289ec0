-- The parts of a rule, without where they lie in memory.
use Rattle.std.specs.Prelude.{ℕ, ℤ, List, Option}
use Rattle.std.specs.Option.{option_map}
use Rattle.calendar_values.specs.Month.{month_number}
use Rattle.zones.specs.declared.moment.Moment.{Moment}
use Rattle.zones.specs.declared.rule_day.RuleDay.{RuleDay}
use Rattle.zones.specs.declared.rule_day.RuleDay.TheVariants as days
use Rattle.zone_files.specs.declared.tz_rule.Daylight.{Daylight}
use Rattle.zone_files.specs.declared.tz_rule.TzRule.{TzRule}

-- a day of each year: of a week of a month, or counted without or with 29 February
pub data DayParts : Type 0 where
  OfWeek : ℕ → ℕ → ℕ → DayParts
  OfCommon : ℕ → DayParts
  OfCounted : ℕ → DayParts

-- a moment of each year: a day, and seconds after the midnight that begins it
pub record MomentParts : Type 0 where
  pub day : DayParts
  pub time : ℤ

-- daylight saving time: its name, its offset in seconds east of UTC, and from when until when it lasts
pub record DaylightParts : Type 0 where
  pub name : List ℕ
  pub offset : ℤ
  pub from : MomentParts
  pub until : MomentParts

-- a rule: the name and the offset of standard time, and daylight saving time, if any
pub record RuleParts : Type 0 where
  pub name : List ℕ
  pub offset : ℤ
  pub daylight : Option DaylightParts

abbrev pub day_parts : RuleDay → DayParts
day_parts (days.Weekday month week weekday) = DayParts.OfWeek (month_number month) week weekday
day_parts (days.Common n) = DayParts.OfCommon n
day_parts (days.Counted n) = DayParts.OfCounted n

abbrev pub moment_parts : Moment → MomentParts
moment_parts moment = record { day = day_parts moment.day; time = moment.time }

abbrev pub daylight_parts : Daylight → DaylightParts
daylight_parts daylight = record {
  name = daylight.name.now;
  offset = daylight.offset;
  from = moment_parts daylight.from;
  until = moment_parts daylight.until;
}

abbrev pub rule_parts : TzRule → RuleParts
rule_parts rule = record { name = rule.name.now; offset = rule.offset; daylight = option_map daylight_parts rule.daylight }
