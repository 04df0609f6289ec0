-- The parts so far are those of one value, and stay so.
use Rattle.std.proofs.Common.{◌≡◌, ℕ, ◌%◌, Bool, true, false, refl, sym, arith, ℤ, pos, unsigned_abs, Option, Some, None, inl, inr}
use Rattle.std.specs.Prelude.{IfSome, int_lt}
use Rattle.std.specs.Cmp.{signed_Decides}
use Rattle.std.proofs.lemmas.Bool.{cases_Bool}
use Rattle.std.proofs.lemmas.Bool.Decides.{nat_tests}
use Rattle.calendar_values.specs.Calendar.{year_of}
use Rattle.calendar_values.specs.Clock.{minute_of, second_of, nanosecond_of, nanos_per_hour, nanos_per_minute}
use Rattle.calendar_values.specs.SignedArith.{signed_arith}
use Rattle.calendar_values.specs.Weeks.{iso_year_of}
use Rattle.format_descriptions.specs.PartTests.{signed, fits, fits_signed, fits_choice}
use Rattle.format_descriptions.specs.Read.{agrees, with_part, no_parts}
use Rattle.format_descriptions.specs.RoundTrips.{number_of, AreParts}
use Rattle.format_descriptions.specs.Written.{unix_count}
use Rattle.format_descriptions.specs.declared.component.Component.{Component}
use Rattle.format_descriptions.specs.declared.component.Component.TheVariants.{Year, YearCentury, YearLastTwo, Month, MonthName, Day, Ordinal}
use Rattle.format_descriptions.specs.declared.component.Component.TheVariants.{WeekdayName, WeekdayNumber, WeekNumber, Hour, Hour12, Period, Minute}
use Rattle.format_descriptions.specs.declared.component.Component.TheVariants.{Second, Subsecond}
use Rattle.format_descriptions.specs.declared.component.Component.TheVariants.{OffsetHour, OffsetMinute, OffsetSecond, UnixTimestamp, Ignore, End}
use Rattle.format_descriptions.specs.declared.component.Component.TheVariants.{IgnoreWeekday, IgnoreDigits, OffsetWord, YearSince, YearSix}
use Rattle.format_descriptions.specs.declared.component.Component.TheVariants.{HourFraction, MinuteFraction}
use Rattle.format_descriptions.specs.declared.modifiers.UnixPrecision.TheVariants.{Seconds, Milliseconds, Microseconds, Nanoseconds}
use Rattle.format_descriptions.specs.declared.modifiers.WeekRule.TheVariants.{Iso, Sunday, Monday}
use Rattle.format_descriptions.specs.declared.modifiers.YearBase.TheVariants.{Calendar, IsoWeek}
use Rattle.format_descriptions.specs.declared.parts.Parts.{Parts}

pub fits-same : (known : Option ℕ) (n : ℕ) → IfSome known (λ m. m ≡ n) → fits known n ≡ true
fits-same None n h = refl
fits-same (Some m) n h = rw h (grind (arith, nat_tests))

pub fits_signed-same : (known : Option ℤ) (n : ℤ) → IfSome known (λ m. m ≡ n) → fits_signed known n ≡ true
fits_signed-same None n h = refl
fits_signed-same (Some m) n h = (signed_Decides m n).1 h

pub fits_choice-same : (known : Option Bool) (b : Bool) → IfSome known (λ c. c ≡ b) → fits_choice known b ≡ true
fits_choice-same None b h = refl
fits_choice-same (Some true) b h = sym h
fits_choice-same (Some false) b h = rw (← h) refl

-- a number is its sign and its size
pub signed-of : (n : ℤ) → signed (int_lt n (pos 0)) (unsigned_abs n) ≡ n
signed-of n = elim (cases_Bool (int_lt n (pos 0))) [
  | inl t ↦ rw t (grind (arith, signed_arith))
  | inr f ↦ rw f (grind (arith, signed_arith))
]

-- the nanoseconds of an hour have its minute, its second and its nanosecond
in_hour : (clock : ℕ) → (minute_of (clock % nanos_per_hour) ≡ minute_of clock) × (second_of (clock % nanos_per_hour) ≡ second_of clock) ×
    (nanosecond_of (clock % nanos_per_hour) ≡ nanosecond_of clock)
in_hour clock = (omega arith, omega arith, omega arith)

-- the nanoseconds of a minute have its second and its nanosecond
in_minute : (clock : ℕ) → (second_of (clock % nanos_per_minute) ≡ second_of clock) × (nanosecond_of (clock % nanos_per_minute) ≡ nanosecond_of clock)
in_minute clock = (omega arith, omega arith)

-- what a component gives of the value contradicts none of its parts
pub agrees-same : (c : Component) (day : ℤ) (clock : ℕ) (o : ℤ) (p : Parts) → AreParts p day clock o → agrees c (number_of c day clock o) p ≡ true
unfolding agrees
agrees-same (Year Calendar sign padding range) day clock o p h = rw (signed-of (year_of day)) (fits_signed-same p.year (year_of day) h.year)
agrees-same (Year IsoWeek sign padding range) day clock o p h = rw (signed-of (iso_year_of day)) (fits_signed-same p.iso_year (iso_year_of day) h.iso_year)
agrees-same (YearCentury Calendar sign padding range) day clock o p h =
    rw (fits_choice-same p.is_before_zero _ h.is_before_zero) (fits-same p.year_century _ h.year_century)
agrees-same (YearCentury IsoWeek sign padding range) day clock o p h =
    rw (fits_choice-same p.is_iso_before_zero _ h.is_iso_before_zero) (fits-same p.iso_year_century _ h.iso_year_century)
agrees-same (YearLastTwo Calendar padding) day clock o p h = fits-same p.year_last_two _ h.year_last_two
agrees-same (YearLastTwo IsoWeek padding) day clock o p h = fits-same p.iso_year_last_two _ h.iso_year_last_two
agrees-same (Month padding) day clock o p h = fits-same p.month _ h.month
agrees-same (MonthName form case) day clock o p h = fits-same p.month _ h.month
agrees-same (Day padding) day clock o p h = fits-same p.day _ h.day_of_month
agrees-same (Ordinal padding) day clock o p h = fits-same p.ordinal _ h.ordinal
agrees-same (WeekdayName form case) day clock o p h = fits-same p.weekday _ h.weekday
agrees-same (WeekdayNumber start count) day clock o p h = fits-same p.weekday _ h.weekday
agrees-same (WeekNumber Iso padding) day clock o p h = fits-same p.iso_week _ h.iso_week
agrees-same (WeekNumber Sunday padding) day clock o p h = fits-same p.sunday_week _ h.sunday_week
agrees-same (WeekNumber Monday padding) day clock o p h = fits-same p.monday_week _ h.monday_week
agrees-same (Hour padding) day clock o p h = fits-same p.hour _ h.hour
agrees-same (Hour12 padding) day clock o p h = fits-same p.hour_12 _ h.hour_12
agrees-same (Period case read) day clock o p h = fits_choice-same p.is_afternoon _ h.is_afternoon
agrees-same (Minute padding) day clock o p h = fits-same p.minute _ h.minute
agrees-same (Second padding) day clock o p h = fits-same p.second _ h.second
agrees-same (Subsecond digits) day clock o p h = fits-same p.nanosecond _ h.nanosecond
agrees-same (OffsetHour sign padding) day clock o p h = rw (fits_choice-same p.is_west _ h.is_west) (fits-same p.offset_hour _ h.offset_hour)
agrees-same (OffsetMinute padding) day clock o p h = fits-same p.offset_minute _ h.offset_minute
agrees-same (OffsetSecond padding) day clock o p h = fits-same p.offset_second _ h.offset_second
agrees-same (UnixTimestamp Seconds sign) day clock o p h =
    rw (signed-of (unix_count Seconds day clock o)) (fits_signed-same p.unix_second _ h.unix_second)
agrees-same (UnixTimestamp Milliseconds sign) day clock o p h =
    rw (signed-of (unix_count Milliseconds day clock o)) (fits_signed-same p.unix_millisecond _ h.unix_millisecond)
agrees-same (UnixTimestamp Microseconds sign) day clock o p h =
    rw (signed-of (unix_count Microseconds day clock o)) (fits_signed-same p.unix_microsecond _ h.unix_microsecond)
agrees-same (UnixTimestamp Nanoseconds sign) day clock o p h =
    rw (signed-of (unix_count Nanoseconds day clock o)) (fits_signed-same p.unix_nanosecond _ h.unix_nanosecond)
agrees-same (Ignore count) day clock o p h = refl
agrees-same End day clock o p h = refl
agrees-same (IgnoreWeekday form case) day clock o p h = refl
agrees-same IgnoreDigits day clock o p h = refl
agrees-same (OffsetWord word case) day clock o p h =
    rw (
      fits_choice-same p.is_west _ h.is_west,
      fits-same p.offset_hour _ h.offset_hour,
      fits-same p.offset_minute _ h.offset_minute,
    ) (fits-same p.offset_second _ h.offset_second)
agrees-same (YearSince first) day clock o p h = rw (signed-of (year_of day)) (fits_signed-same p.year (year_of day) h.year)
agrees-same (YearSix Calendar) day clock o p h = rw (signed-of (year_of day)) (fits_signed-same p.year (year_of day) h.year)
agrees-same (YearSix IsoWeek) day clock o p h = rw (signed-of (iso_year_of day)) (fits_signed-same p.iso_year (iso_year_of day) h.iso_year)
agrees-same (HourFraction digits) day clock o p h =
    let same = in_hour clock in
    rw (same.0, same.1, same.2, fits-same p.minute _ h.minute, fits-same p.second _ h.second) (fits-same p.nanosecond _ h.nanosecond)
agrees-same (MinuteFraction digits) day clock o p h =
    let same = in_minute clock in rw (same.0, same.1, fits-same p.second _ h.second) (fits-same p.nanosecond _ h.nanosecond)

-- the parts with what a component gives of the value are those of the value
pub AreParts-next : (c : Component) (day : ℤ) (clock : ℕ) (o : ℤ) (p : Parts) → AreParts p day clock o
    → AreParts (with_part c (number_of c day clock o) p) day clock o
unfolding with_part
AreParts-next (Year Calendar sign padding range) day clock o p h = assumption (h, signed-of (year_of day))
AreParts-next (Year IsoWeek sign padding range) day clock o p h = assumption (h, signed-of (iso_year_of day))
AreParts-next (YearCentury Calendar sign padding range) day clock o p h = assumption (h, refl)
AreParts-next (YearCentury IsoWeek sign padding range) day clock o p h = assumption (h, refl)
AreParts-next (YearLastTwo Calendar padding) day clock o p h = assumption (h, refl)
AreParts-next (YearLastTwo IsoWeek padding) day clock o p h = assumption (h, refl)
AreParts-next (Month padding) day clock o p h = assumption (h, refl)
AreParts-next (MonthName form case) day clock o p h = assumption (h, refl)
AreParts-next (Day padding) day clock o p h = assumption (h, refl)
AreParts-next (Ordinal padding) day clock o p h = assumption (h, refl)
AreParts-next (WeekdayName form case) day clock o p h = assumption (h, refl)
AreParts-next (WeekdayNumber start count) day clock o p h = assumption (h, refl)
AreParts-next (WeekNumber Iso padding) day clock o p h = assumption (h, refl)
AreParts-next (WeekNumber Sunday padding) day clock o p h = assumption (h, refl)
AreParts-next (WeekNumber Monday padding) day clock o p h = assumption (h, refl)
AreParts-next (Hour padding) day clock o p h = assumption (h, refl)
AreParts-next (Hour12 padding) day clock o p h = assumption (h, refl)
AreParts-next (Period case read) day clock o p h = assumption (h, refl)
AreParts-next (Minute padding) day clock o p h = assumption (h, refl)
AreParts-next (Second padding) day clock o p h = assumption (h, refl)
AreParts-next (Subsecond digits) day clock o p h = assumption (h, refl)
AreParts-next (OffsetHour sign padding) day clock o p h = assumption (h, refl)
AreParts-next (OffsetMinute padding) day clock o p h = assumption (h, refl)
AreParts-next (OffsetSecond padding) day clock o p h = assumption (h, refl)
AreParts-next (UnixTimestamp Seconds sign) day clock o p h = assumption (h, signed-of (unix_count Seconds day clock o))
AreParts-next (UnixTimestamp Milliseconds sign) day clock o p h = assumption (h, signed-of (unix_count Milliseconds day clock o))
AreParts-next (UnixTimestamp Microseconds sign) day clock o p h = assumption (h, signed-of (unix_count Microseconds day clock o))
AreParts-next (UnixTimestamp Nanoseconds sign) day clock o p h = assumption (h, signed-of (unix_count Nanoseconds day clock o))
AreParts-next (Ignore count) day clock o p h = h
AreParts-next End day clock o p h = h
AreParts-next (IgnoreWeekday form case) day clock o p h = h
AreParts-next IgnoreDigits day clock o p h = h
AreParts-next (OffsetWord word case) day clock o p h = assumption (h, refl)
AreParts-next (YearSince first) day clock o p h = assumption (h, signed-of (year_of day))
AreParts-next (YearSix Calendar) day clock o p h = assumption (h, signed-of (year_of day))
AreParts-next (YearSix IsoWeek) day clock o p h = assumption (h, signed-of (iso_year_of day))
AreParts-next (HourFraction digits) day clock o p h = let same = in_hour clock in assumption (h, same.0, same.1, same.2)
AreParts-next (MinuteFraction digits) day clock o p h = let same = in_minute clock in assumption (h, same.0, same.1)

-- nothing is known
pub AreParts-none : (day : ℤ) (clock : ℕ) (o : ℤ) → AreParts no_parts day clock o
AreParts-none day clock o = assumption tt
