-- The date that parts name: each part that is known is that of it.
use Rattle.std.specs.Prelude.{◌≡◌, ℕ, ◌+◌, ◌-◌, ◌*◌, ◌/◌, ◌%◌, ◌==◌, ◌||◌, ◌&&◌, Bool, true, false, if◌then◌else◌, nat_lt, ℤ, pos, int_lt, unsigned_abs}
use Rattle.std.specs.Prelude.{IfSome, Option, Some, None, Result, Ok, Err, is_some}
use Rattle.calendar_values.specs.Calendar.{year_of, month_of, day_of_month_of, ordinal_of, is_leap_year, days_in_month}
use Rattle.calendar_values.specs.Calendar.{days_in_year, year_start, day_of_calendar_date, day_of_ordinal_date}
use Rattle.calendar_values.specs.Constructors.{iso_week_date}
use Rattle.calendar_values.specs.Range.{first_year, last_year, is_outside}
use Rattle.calendar_values.specs.Refusals.{Refusal}
use Rattle.calendar_values.specs.Weeks.{weekday_of, iso_year_of, iso_week_of, sunday_week_of, monday_week_of}
use Rattle.format_descriptions.specs.ClockValues.{or_zero}
use Rattle.format_descriptions.specs.PartTests.{signed, fits, fits_signed, fits_choice}
use Rattle.format_descriptions.specs.declared.parts.Parts.{Parts}
use Rattle.format_descriptions.specs.declared.value_refusal.Field.{Field}
use Rattle.format_descriptions.specs.declared.value_refusal.Field.TheVariants.{Year, YearCentury, YearLastTwo, IsoYear, IsoYearCentury, IsoYearLastTwo}
use Rattle.format_descriptions.specs.declared.value_refusal.Field.TheVariants.{Month, Day, Ordinal, Weekday, IsoWeek, SundayWeek, MondayWeek}
use Rattle.format_descriptions.specs.declared.value_refusal.ValueRefusal.{ValueRefusal}
use Rattle.format_descriptions.specs.declared.value_refusal.ValueRefusal.TheVariants.{Missing, Wrong}

-- each part of a year that is known is that of this one: the whole, its hundreds, its sign, its last two digits
pub record HasYearParts (year : Option ℤ) (century : Option ℕ) (is_before_zero : Option Bool) (last_two : Option ℕ) (y : ℤ) : Type 0 where
  pub whole : IfSome year (λ known. known ≡ y)
  pub hundreds : IfSome century (λ known. known ≡ unsigned_abs y / 100)
  pub sign : IfSome is_before_zero (λ known. known ≡ int_lt y (pos 0))
  pub last : IfSome last_two (λ known. known ≡ unsigned_abs y % 100)

-- each part of a date that is known is that of this day
pub record HasDateParts (p : Parts) (day : ℤ) : Type 0 where
  pub year : HasYearParts p.year p.year_century p.is_before_zero p.year_last_two (year_of day)
  pub iso_year : HasYearParts p.iso_year p.iso_year_century p.is_iso_before_zero p.iso_year_last_two (iso_year_of day)
  pub month : IfSome p.month (λ known. known ≡ month_of day)
  pub day_of_month : IfSome p.day (λ known. known ≡ day_of_month_of day)
  pub ordinal : IfSome p.ordinal (λ known. known ≡ ordinal_of day)
  pub weekday : IfSome p.weekday (λ known. known ≡ weekday_of day)
  pub iso_week : IfSome p.iso_week (λ known. known ≡ iso_week_of day)
  pub sunday_week : IfSome p.sunday_week (λ known. known ≡ sunday_week_of day)
  pub monday_week : IfSome p.monday_week (λ known. known ≡ monday_week_of day)

-- a year of its sign, its hundreds and its last two digits, if there is one
abbrev pub year_of_digits : Bool → ℕ → ℕ → Option ℤ
year_of_digits is_negative century last_two =
    if nat_lt 9_999 century || nat_lt 99 last_two then None else Some (signed is_negative (century * 100 + last_two))

-- the year that is known, whole or by its digits
abbrev pub year_known : Option ℤ → Option ℕ → Option Bool → Option ℕ → Option ℤ
year_known (Some y) century sign last_two = Some y
year_known None (Some c) (Some s) (Some l) = year_of_digits s c l
year_known None (Some c) (Some s) None = None
year_known None (Some c) None last_two = None
year_known None None sign last_two = None

abbrev pub calendar_year : Parts → Option ℤ
calendar_year p = year_known p.year p.year_century p.is_before_zero p.year_last_two

abbrev pub iso_year : Parts → Option ℤ
iso_year p = year_known p.iso_year p.iso_year_century p.is_iso_before_zero p.iso_year_last_two

-- the parts name a day of a year: by month and day, by the day of the year, or by a week and a day of the week
abbrev pub tells_day : Parts → Bool
tells_day p =
    (is_some p.month && is_some p.day) || (is_some p.ordinal || ((is_some p.weekday && is_some p.sunday_week)
    || (is_some p.weekday && is_some p.monday_week)))

-- the parts name a day of an ISO year
abbrev pub tells_iso_day : Parts → Bool
tells_iso_day p = is_some p.iso_week && is_some p.weekday

-- the parts are a year and a day of it, or an ISO year and a day of it
abbrev pub tells_date : Parts → Bool
tells_date p = (is_some (calendar_year p) && tells_day p) || (is_some (iso_year p) && tells_iso_day p)

-- a part that does not fit, or else the first of the others
abbrev pub or_wrong : Bool → Field → Option Field → Option Field
or_wrong true field others = others
or_wrong false field others = Some field

-- the first part that there is
abbrev pub first_of : Option Field → Option Field → Option Field
first_of None others = others
first_of (Some field) others = Some field

-- the first part of a year that is not that of this one
unfoldable pub wrong_year : Option ℤ → Option ℕ → Option Bool → Option ℕ → ℤ → Field → Field → Field → Option Field
wrong_year year century sign last_two y whole hundreds last =
    or_wrong (fits_signed year y) whole (or_wrong (fits century (unsigned_abs y / 100)) hundreds
    (or_wrong (fits_choice sign (int_lt y (pos 0))) hundreds (or_wrong (fits last_two (unsigned_abs y % 100)) last None)))

-- the first of the other parts of a date that is not that of this day
unfoldable pub wrong_day : Parts → ℤ → Option Field
wrong_day p day =
    or_wrong (fits p.month (month_of day)) Month (or_wrong (fits p.day (day_of_month_of day)) Day
    (or_wrong (fits p.ordinal (ordinal_of day)) Ordinal (or_wrong (fits p.weekday (weekday_of day)) Weekday None)))

unfoldable pub wrong_week : Parts → ℤ → Option Field
wrong_week p day =
    or_wrong (fits p.iso_week (iso_week_of day)) IsoWeek (or_wrong (fits p.sunday_week (sunday_week_of day)) SundayWeek
    (or_wrong (fits p.monday_week (monday_week_of day)) MondayWeek None))

-- the first part of a date that is not that of this day
unfoldable pub wrong_date : Parts → ℤ → Option Field
wrong_date p day =
    first_of (wrong_day p day) (first_of (wrong_week p day)
    (first_of (wrong_year p.year p.year_century p.is_before_zero p.year_last_two (year_of day) Year YearCentury YearLastTwo)
    (wrong_year p.iso_year p.iso_year_century p.is_iso_before_zero p.iso_year_last_two (iso_year_of day) IsoYear IsoYearCentury IsoYearLastTwo)))

-- this day, or the error of the part that is not that of it
abbrev pub day_unless : ℤ → Option Field → Result ℤ ValueRefusal
day_unless day None = Ok day
day_unless day (Some field) = Err (Wrong field)

-- this day, if each part is that of it, or else the first that is not
abbrev pub day_with : Parts → ℤ → Result ℤ ValueRefusal
day_with p day = day_unless day (wrong_date p day)

-- the day of a month and a day of it
unfoldable pub month_day : Parts → ℤ → ℕ → ℕ → Result ℤ ValueRefusal
month_day p y m d =
    if m == 0 || nat_lt 12 m then Err (Wrong Month)
    else (if d == 0 || nat_lt (days_in_month (is_leap_year y) m) d then Err (Wrong Day)
    else day_with p (day_of_calendar_date y m d))

-- the day of a day of the year
unfoldable pub year_day : Parts → ℤ → ℕ → Field → Result ℤ ValueRefusal
year_day p y n wrong = if n == 0 || nat_lt (days_in_year y) n then Err (Wrong wrong) else day_with p (day_of_ordinal_date y n)

-- the day of the year of a week that begins on a day of the week, and a day of that week; 0 before the year
unfoldable pub week_ordinal : ℕ → ℤ → ℕ → ℕ → ℕ
week_ordinal first y week weekday = (7 + first - weekday_of (year_start y)) % 7 + 1 + 7 * week + (weekday + 7 - first) % 7 - 7

-- the day of a year by a week that begins on a day of the week, and by a day of that week
unfoldable pub week_day : ℕ → Parts → ℤ → ℕ → ℕ → Field → Result ℤ ValueRefusal
week_day first p y week weekday wrong =
    if nat_lt 53 week then Err (Wrong wrong)
    else (if nat_lt 6 weekday then Err (Wrong Weekday) else year_day p y (week_ordinal first y week weekday) wrong)

-- the day of an ISO week date that there is
abbrev pub iso_day_with : Parts → Result ℤ Refusal → Result ℤ ValueRefusal
iso_day_with p (Ok day) = day_with p day
iso_day_with p (Err refusal) = Err (Wrong IsoWeek)

-- the day of an ISO week date
unfoldable pub iso_day : Parts → ℤ → ℕ → ℕ → Result ℤ ValueRefusal
iso_day p y week weekday =
    if nat_lt 53 week then Err (Wrong IsoWeek)
    else (if nat_lt 6 weekday then Err (Wrong Weekday) else iso_day_with p (iso_week_date y week weekday))

-- the day by an ISO year, if that is known, or else the missing part
abbrev pub day_in_iso_year : Parts → Field → Option ℤ → Result ℤ ValueRefusal
day_in_iso_year p missing None = Err (Missing missing)
day_in_iso_year p missing (Some y) = if tells_iso_day p then iso_day p y (or_zero p.iso_week) (or_zero p.weekday) else Err (Missing missing)

-- the day of a year: by the first of the ways whose parts are known
unfoldable pub day_in_year : Parts → ℤ → Result ℤ ValueRefusal
day_in_year p y =
    if is_some p.month && is_some p.day then month_day p y (or_zero p.month) (or_zero p.day)
    else (if is_some p.ordinal then year_day p y (or_zero p.ordinal) Ordinal
    else (if is_some p.weekday && is_some p.sunday_week then week_day 6 p y (or_zero p.sunday_week) (or_zero p.weekday) SundayWeek
    else (if is_some p.weekday && is_some p.monday_week then week_day 0 p y (or_zero p.monday_week) (or_zero p.weekday) MondayWeek
    else day_in_iso_year p (if is_some p.month then Day else Month) (iso_year p))))

-- the day of a year that is known, or of an ISO year
abbrev pub day_by_year : Parts → Option ℤ → Result ℤ ValueRefusal
day_by_year p None = day_in_iso_year p Year (iso_year p)
day_by_year p (Some y) = if is_outside first_year last_year y then Err (Wrong Year) else day_in_year p y

-- the day that the parts name, or the error
unfoldable pub date_of_parts : Parts → Result ℤ ValueRefusal
date_of_parts p = day_by_year p (calendar_year p)
