-- Parts stay: a component adds a part, and takes none away.
use Rattle.std.proofs.Common.{◌≡◌, ℕ, Bool, true, false, List, refl}
use Rattle.format_descriptions.specs.Choices.{Takes}
use Rattle.format_descriptions.specs.PartPlaces.{has_part}
use Rattle.format_descriptions.specs.Read.{with_part, no_parts}
use Rattle.format_descriptions.specs.declared.component.Component.{Component}
use Rattle.format_descriptions.specs.declared.component.Component.TheVariants.{Year, YearCentury, YearLastTwo, Month, MonthName, Day, Ordinal}
use Rattle.format_descriptions.specs.declared.component.Component.TheVariants.{WeekdayName, WeekdayNumber, WeekNumber, Hour, Hour12, Period, Minute}
use Rattle.format_descriptions.specs.declared.component.Component.TheVariants.{Second, Subsecond}
use Rattle.format_descriptions.specs.declared.component.Component.TheVariants.{OffsetHour, OffsetMinute, OffsetSecond, UnixTimestamp, Ignore, End}
use Rattle.format_descriptions.specs.declared.component.Component.TheVariants.{IgnoreWeekday, IgnoreDigits, OffsetWord, YearSince, YearSix}
use Rattle.format_descriptions.specs.declared.component.Component.TheVariants.{HourFraction, MinuteFraction}
use Rattle.format_descriptions.specs.declared.item.Item.{Item}
use Rattle.format_descriptions.specs.declared.modifiers.UnixPrecision.TheVariants.{Seconds, Milliseconds, Microseconds, Nanoseconds}
use Rattle.format_descriptions.specs.declared.modifiers.WeekRule.TheVariants.{Iso, Sunday, Monday}
use Rattle.format_descriptions.specs.declared.modifiers.YearBase.TheVariants.{Calendar, IsoWeek}
use Rattle.format_descriptions.specs.declared.parts.Parts.{Parts}
use Rattle.format_descriptions.specs.declared.value_refusal.Field.{Field}
use Rattle.format_descriptions.specs.declared.value_refusal.Field.TheVariants as field

part-kept : (c : Component) (part : Field) (n : Bool × ℕ) (p : Parts) → has_part part p ≡ true → has_part part (with_part c n p) ≡ true
unfolding has_part with_part
part-kept (Year Calendar sign padding range) field.Year n p h = refl
part-kept (Year Calendar sign padding range) part n p h = h
part-kept (Year IsoWeek sign padding range) field.IsoYear n p h = refl
part-kept (Year IsoWeek sign padding range) part n p h = h
part-kept (YearCentury Calendar sign padding range) field.YearCentury n p h = refl
part-kept (YearCentury Calendar sign padding range) part n p h = h
part-kept (YearCentury IsoWeek sign padding range) field.IsoYearCentury n p h = refl
part-kept (YearCentury IsoWeek sign padding range) part n p h = h
part-kept (YearLastTwo Calendar padding) field.YearLastTwo n p h = refl
part-kept (YearLastTwo Calendar padding) part n p h = h
part-kept (YearLastTwo IsoWeek padding) field.IsoYearLastTwo n p h = refl
part-kept (YearLastTwo IsoWeek padding) part n p h = h
part-kept (Month padding) field.Month n p h = refl
part-kept (Month padding) part n p h = h
part-kept (MonthName form case) field.Month n p h = refl
part-kept (MonthName form case) part n p h = h
part-kept (Day padding) field.Day n p h = refl
part-kept (Day padding) part n p h = h
part-kept (Ordinal padding) field.Ordinal n p h = refl
part-kept (Ordinal padding) part n p h = h
part-kept (WeekdayName form case) field.Weekday n p h = refl
part-kept (WeekdayName form case) part n p h = h
part-kept (WeekdayNumber start count) field.Weekday n p h = refl
part-kept (WeekdayNumber start count) part n p h = h
part-kept (WeekNumber Iso padding) field.IsoWeek n p h = refl
part-kept (WeekNumber Iso padding) part n p h = h
part-kept (WeekNumber Sunday padding) field.SundayWeek n p h = refl
part-kept (WeekNumber Sunday padding) part n p h = h
part-kept (WeekNumber Monday padding) field.MondayWeek n p h = refl
part-kept (WeekNumber Monday padding) part n p h = h
part-kept (Hour padding) field.Hour n p h = refl
part-kept (Hour padding) part n p h = h
part-kept (Hour12 padding) field.Hour12 n p h = refl
part-kept (Hour12 padding) part n p h = h
part-kept (Period case read) field.Period n p h = refl
part-kept (Period case read) part n p h = h
part-kept (Minute padding) field.Minute n p h = refl
part-kept (Minute padding) part n p h = h
part-kept (Second padding) field.Second n p h = refl
part-kept (Second padding) part n p h = h
part-kept (Subsecond digits) field.Subsecond n p h = refl
part-kept (Subsecond digits) part n p h = h
part-kept (OffsetHour sign padding) field.OffsetHour n p h = refl
part-kept (OffsetHour sign padding) part n p h = h
part-kept (OffsetMinute padding) field.OffsetMinute n p h = refl
part-kept (OffsetMinute padding) part n p h = h
part-kept (OffsetSecond padding) field.OffsetSecond n p h = refl
part-kept (OffsetSecond padding) part n p h = h
part-kept (UnixTimestamp Seconds sign) field.UnixSecond n p h = refl
part-kept (UnixTimestamp Seconds sign) part n p h = h
part-kept (UnixTimestamp Milliseconds sign) field.UnixMillisecond n p h = refl
part-kept (UnixTimestamp Milliseconds sign) part n p h = h
part-kept (UnixTimestamp Microseconds sign) field.UnixMicrosecond n p h = refl
part-kept (UnixTimestamp Microseconds sign) part n p h = h
part-kept (UnixTimestamp Nanoseconds sign) field.UnixNanosecond n p h = refl
part-kept (UnixTimestamp Nanoseconds sign) part n p h = h
part-kept (Ignore count) part n p h = h
part-kept End part n p h = h
part-kept (IgnoreWeekday form case) part n p h = h
part-kept IgnoreDigits part n p h = h
part-kept (OffsetWord word case) field.OffsetHour n p h = refl
part-kept (OffsetWord word case) field.OffsetMinute n p h = refl
part-kept (OffsetWord word case) field.OffsetSecond n p h = refl
part-kept (OffsetWord word case) part n p h = h
part-kept (YearSince first) field.Year n p h = refl
part-kept (YearSince first) part n p h = h
part-kept (YearSix Calendar) field.Year n p h = refl
part-kept (YearSix Calendar) part n p h = h
part-kept (YearSix IsoWeek) field.IsoYear n p h = refl
part-kept (YearSix IsoWeek) part n p h = h
part-kept (HourFraction digits) field.Minute n p h = refl
part-kept (HourFraction digits) field.Second n p h = refl
part-kept (HourFraction digits) field.Subsecond n p h = refl
part-kept (HourFraction digits) part n p h = h
part-kept (MinuteFraction digits) field.Second n p h = refl
part-kept (MinuteFraction digits) field.Subsecond n p h = refl
part-kept (MinuteFraction digits) part n p h = h

pub no_part : (part : Field) → has_part part no_parts ≡ false
unfolding has_part
no_part field.Year = refl
no_part field.YearCentury = refl
no_part field.YearLastTwo = refl
no_part field.IsoYear = refl
no_part field.IsoYearCentury = refl
no_part field.IsoYearLastTwo = refl
no_part field.Month = refl
no_part field.Day = refl
no_part field.Ordinal = refl
no_part field.Weekday = refl
no_part field.IsoWeek = refl
no_part field.SundayWeek = refl
no_part field.MondayWeek = refl
no_part field.Hour = refl
no_part field.Hour12 = refl
no_part field.Period = refl
no_part field.Minute = refl
no_part field.Second = refl
no_part field.Subsecond = refl
no_part field.OffsetHour = refl
no_part field.OffsetMinute = refl
no_part field.OffsetSecond = refl
no_part field.UnixSecond = refl
no_part field.UnixMillisecond = refl
no_part field.UnixMicrosecond = refl
no_part field.UnixNanosecond = refl

-- the parts that a choice reads have those before it
pub taken-kept : (part : Field) (instead : Bool) (items chosen : List Item) (text : List ℕ) (p : Parts) (rest : List ℕ) (q : Parts)
    → Takes instead items chosen text p rest q → has_part part p ≡ true → has_part part q ≡ true
taken-kept part _ _ _ _ _ _ _ Takes.ends h = h
taken-kept part _ _ _ _ _ _ _ (Takes.byte others) h = taken-kept part _ _ _ _ _ _ _ others h
taken-kept part _ _ _ _ _ _ _ (Takes.part {component = c} {n = n} {p = p} read agree others) h =
    taken-kept part _ _ _ _ _ _ _ others (part-kept c part n p h)
taken-kept part _ _ _ _ _ _ _ (Takes.optional own others) h = taken-kept part _ _ _ _ _ _ _ others (taken-kept part _ _ _ _ _ _ _ own h)
taken-kept part _ _ _ _ _ _ _ (Takes.optional_left_out fails others) h = taken-kept part _ _ _ _ _ _ _ others h
taken-kept part _ _ _ _ _ _ _ (Takes.first own others) h = taken-kept part _ _ _ _ _ _ _ others (taken-kept part _ _ _ _ _ _ _ own h)
taken-kept part _ _ _ _ _ _ _ (Takes.first_replaced fails others) h = taken-kept part _ _ _ _ _ _ _ others h
taken-kept part _ _ _ _ _ _ _ (Takes.other own others) h = taken-kept part _ _ _ _ _ _ _ others (taken-kept part _ _ _ _ _ _ _ own h)
taken-kept part _ _ _ _ _ _ _ (Takes.other_replaced fails others) h = taken-kept part _ _ _ _ _ _ _ others h
taken-kept part _ _ _ _ _ _ _ (Takes.other_left_out others) h = taken-kept part _ _ _ _ _ _ _ others h
