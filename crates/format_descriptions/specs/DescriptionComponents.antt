-- The components that descriptions name.
use Rattle.std.specs.Prelude.{Option, Some, option_map}
use Rattle.format_descriptions.specs.declared.component.Component.{Component}
use Rattle.format_descriptions.specs.declared.component.Component.TheVariants as of
use Rattle.format_descriptions.specs.declared.description_modifiers.Modifiers.{Modifiers}
use Rattle.format_descriptions.specs.declared.description_names.Name.{Name}
use Rattle.format_descriptions.specs.declared.description_names.Name.TheVariants.{Year, Month, Day, Ordinal, Weekday, WeekNumber, Hour, Minute}
use Rattle.format_descriptions.specs.declared.description_names.Name.TheVariants.{Period, Second, Subsecond, OffsetHour, OffsetMinute, OffsetSecond}
use Rattle.format_descriptions.specs.declared.description_names.Name.TheVariants.{UnixTimestamp, Ignore, End}
use Rattle.format_descriptions.specs.declared.description_values.Repr.{Repr}
use Rattle.format_descriptions.specs.declared.description_values.Repr.TheVariants.{Century, LastTwo, Long, Short, Sunday, Monday, Twelve}
use Rattle.format_descriptions.specs.declared.modifiers.NameForm.TheVariants.{Long as LongName, Short as ShortName}
use Rattle.format_descriptions.specs.declared.modifiers.WeekRule.TheVariants.{Iso as IsoWeeks, Sunday as SundayWeeks, Monday as MondayWeeks}
use Rattle.format_descriptions.specs.declared.modifiers.WeekStart.TheVariants.{Sunday as FromSunday, Monday as FromMonday}

-- the component of a year, by its form
abbrev pub year_of : Modifiers → Option Repr → Component
year_of m (Some Century) = of.YearCentury m.base m.sign m.padding m.range
year_of m (Some LastTwo) = of.YearLastTwo m.base m.padding
year_of m form = of.Year m.base m.sign m.padding m.range

-- the component of a month, by its form
abbrev pub month_of : Modifiers → Option Repr → Component
month_of m (Some Long) = of.MonthName LongName m.read_case
month_of m (Some Short) = of.MonthName ShortName m.read_case
month_of m form = of.Month m.padding

-- the component of a day of the week, by its form
abbrev pub weekday_of : Modifiers → Option Repr → Component
weekday_of m (Some Short) = of.WeekdayName ShortName m.read_case
weekday_of m (Some Sunday) = of.WeekdayNumber FromSunday m.first_number
weekday_of m (Some Monday) = of.WeekdayNumber FromMonday m.first_number
weekday_of m form = of.WeekdayName LongName m.read_case

-- the component of a week of the year, by its rule
abbrev pub week_of : Modifiers → Option Repr → Component
week_of m (Some Sunday) = of.WeekNumber SundayWeeks m.padding
week_of m (Some Monday) = of.WeekNumber MondayWeeks m.padding
week_of m form = of.WeekNumber IsoWeeks m.padding

-- the component of an hour, by its clock
abbrev pub hour_of : Modifiers → Option Repr → Component
hour_of m (Some Twelve) = of.Hour12 m.padding
hour_of m form = of.Hour m.padding

-- the component of a name and its modifiers, unless it lacks one that it needs
unfoldable pub component_of : Name → Modifiers → Option Component
component_of Year m = Some (year_of m m.repr)
component_of Month m = Some (month_of m m.repr)
component_of Day m = Some (of.Day m.padding)
component_of Ordinal m = Some (of.Ordinal m.padding)
component_of Weekday m = Some (weekday_of m m.repr)
component_of WeekNumber m = Some (week_of m m.repr)
component_of Hour m = Some (hour_of m m.repr)
component_of Minute m = Some (of.Minute m.padding)
component_of Period m = Some (of.Period m.case m.read_case)
component_of Second m = Some (of.Second m.padding)
component_of Subsecond m = Some (of.Subsecond m.digits)
component_of OffsetHour m = Some (of.OffsetHour m.sign m.padding)
component_of OffsetMinute m = Some (of.OffsetMinute m.padding)
component_of OffsetSecond m = Some (of.OffsetSecond m.padding)
component_of UnixTimestamp m = Some (of.UnixTimestamp m.precision m.sign)
component_of Ignore m = option_map (λ count. of.Ignore count) m.count
component_of End m = Some of.End
