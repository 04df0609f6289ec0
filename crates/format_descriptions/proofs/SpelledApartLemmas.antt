-- Components whose texts begin with no digit.
use Rattle.std.proofs.Common.{◌≡◌, ℕ, Bool, List, ◌++◌}
use Rattle.std.proofs.Common.{None}
use Rattle.std.specs.Prelude.{IsTrue}
use Rattle.rfc3339.specs.Reading.{digit_at}
use Rattle.format_descriptions.specs.Modifiers.{unix_digits}
use Rattle.format_descriptions.specs.RoundTrips.{begins_apart}
use Rattle.format_descriptions.specs.Spelled.{IsText}
use Rattle.format_descriptions.specs.SpelledPieces.{first_hour}
use Rattle.format_descriptions.specs.declared.component.Component.{Component}
use Rattle.format_descriptions.specs.declared.component.Component.TheVariants.{Year, YearCentury, YearLastTwo, Month, MonthName, Day}
use Rattle.format_descriptions.specs.declared.component.Component.TheVariants.{Ordinal}
use Rattle.format_descriptions.specs.declared.component.Component.TheVariants.{WeekdayName, WeekdayNumber, WeekNumber, Hour, Hour12, Period}
use Rattle.format_descriptions.specs.declared.component.Component.TheVariants.{Minute}
use Rattle.format_descriptions.specs.declared.component.Component.TheVariants.{Second, Subsecond}
use Rattle.format_descriptions.specs.declared.component.Component.TheVariants.{OffsetHour, OffsetMinute, OffsetSecond, UnixTimestamp}
use Rattle.format_descriptions.specs.declared.component.Component.TheVariants.{Ignore, End}
use Rattle.format_descriptions.specs.declared.component.Component.TheVariants.{IgnoreWeekday, IgnoreDigits, OffsetWord, YearSince, YearSix}
use Rattle.format_descriptions.specs.declared.component.Component.TheVariants.{HourFraction, MinuteFraction}
use Rattle.format_descriptions.specs.declared.modifiers.Padding.TheVariants.{Zero, Bare}
use Rattle.format_descriptions.specs.declared.modifiers.Sign.TheVariants.{Automatic, Mandatory}
use Rattle.format_descriptions.proofs.SpelledSignLemmas.{sign-no_digit}
use Rattle.format_descriptions.proofs.SpelledWordLemmas.{month-no_digit, weekday-no_digit, period-no_digit}

pub component-no_digit : (c : Component) (n : Bool × ℕ) (piece rest : List ℕ) → IsTrue (begins_apart c) → IsText c n piece
    → digit_at (piece ++ rest) ≡ None
component-no_digit (Year base Mandatory padding range) n piece rest h is = sign-no_digit padding 4 _ n piece rest is
component-no_digit (Year base Automatic padding range) n piece rest h is = absurd cc
component-no_digit (YearCentury base Mandatory padding range) n piece rest h is = sign-no_digit padding 2 _ n piece rest is
component-no_digit (YearCentury base Automatic padding range) n piece rest h is = absurd cc
component-no_digit (YearLastTwo base padding) n piece rest h is = absurd cc
component-no_digit (Month padding) n piece rest h is = absurd cc
component-no_digit (MonthName form case) n piece rest h is = month-no_digit form case n.1 piece rest is.3
component-no_digit (Day padding) n piece rest h is = absurd cc
component-no_digit (Ordinal padding) n piece rest h is = absurd cc
component-no_digit (WeekdayName form case) n piece rest h is = weekday-no_digit form case n.1 piece rest is.2
component-no_digit (WeekdayNumber start count) n piece rest h is = absurd cc
component-no_digit (WeekNumber rule padding) n piece rest h is = absurd cc
component-no_digit (Hour padding) n piece rest h is = absurd cc
component-no_digit (Hour12 padding) n piece rest h is = absurd cc
component-no_digit (Period case read) n piece rest h is = period-no_digit case read (first_hour n.0) piece rest is.1
component-no_digit (Minute padding) n piece rest h is = absurd cc
component-no_digit (Second padding) n piece rest h is = absurd cc
component-no_digit (Subsecond digits) n piece rest h is = absurd cc
component-no_digit (OffsetHour Mandatory padding) n piece rest h is = sign-no_digit padding 2 0 n piece rest is
component-no_digit (OffsetHour Automatic padding) n piece rest h is = absurd cc
component-no_digit (OffsetMinute padding) n piece rest h is = absurd cc
component-no_digit (OffsetSecond padding) n piece rest h is = absurd cc
component-no_digit (UnixTimestamp precision Mandatory) n piece rest h is = sign-no_digit Bare (unix_digits precision) 0 n piece rest is
component-no_digit (UnixTimestamp precision Automatic) n piece rest h is = absurd cc
component-no_digit (Ignore count) n piece rest h is = absurd cc
component-no_digit End n piece rest h is = absurd cc
component-no_digit (IgnoreWeekday form case) n piece rest h is = weekday-no_digit form case n.1 piece rest is.2
component-no_digit IgnoreDigits n piece rest h is = absurd cc
component-no_digit (OffsetWord word case) n piece rest h is = absurd cc
component-no_digit (YearSince first) n piece rest h is = absurd cc
component-no_digit (YearSix base) n piece rest h is = sign-no_digit Zero 6 0 n piece rest is
component-no_digit (HourFraction digits) n piece rest h is = absurd cc
component-no_digit (MinuteFraction digits) n piece rest h is = absurd cc
