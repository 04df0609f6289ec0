-- Weeks by Sundays and by Mondays in closed form, the Thursday of a week, and the day of an ISO week date by a count of days.
use Rattle.std.proofs.Common.{◌≡◌, ℕ, ◌+◌, ◌-◌, ◌/◌, ◌*◌, ◌%◌, ◌<◌, ◌≤◌, ◌∙◌, arith, ℤ, pos, ◌+ℤ◌}
use Rattle.calendar_values.specs.Calendar.{days_in_year, year_start, year_of, ordinal_of, IsOrdinalDate, day_of_ordinal_date}
use Rattle.calendar_values.specs.Range.{IsDay, IsYear}
use Rattle.calendar_values.specs.Weeks.{monday_of, weekday_of, thursday_of, sunday_week_of, monday_week_of, day_of_iso_week_date}
use Rattle.calendar_values.specs.SignedArith.{signed_arith}
use Rattle.calendar_values.specs.WeekLemmas.{weekday_of-parts, weekday_of-bound, weekday_of-ordinal, weekday_of-add, count_weekday-closed, iso_week_of-closed}
use Rattle.calendar_values.specs.WeekLemmas.{IsDay-thursday_of}
use Rattle.calendar_values.specs.YearLemmas.{year_start-next, days_in_year_bounds}
use Rattle.calendar_values.specs.DayLemmas.{IsOrdinalDate-of, year_of-is, IsYear-year_of, IsDay-ordinal_date}
use Rattle.calendar_values.specs.IsoWeekDateLemmas.{weeks_in_year-closed}

-- the week numbers by the weekday and the day of the year
pub sunday_week_of-closed : (n : ℤ) → sunday_week_of n ≡ (ordinal_of n + 6 - (weekday_of n + 1) % 7) / 7
sunday_week_of-closed n =
    let place = IsOrdinalDate-of n in
    let moved = weekday_of-ordinal n in
    omega (arith, place.first, count_weekday-closed 6 (year_start (year_of n)) (ordinal_of n) (omega arith), weekday_of-bound (year_start (year_of n)))

pub monday_week_of-closed : (n : ℤ) → monday_week_of n ≡ (ordinal_of n + 6 - weekday_of n) / 7
monday_week_of-closed n =
    let place = IsOrdinalDate-of n in
    let moved = weekday_of-ordinal n in
    omega (arith, place.first, count_weekday-closed 0 (year_start (year_of n)) (ordinal_of n) (omega arith), weekday_of-bound (year_start (year_of n)))

-- a year and a day of the year, which are those of the Thursday of the week of the day
pub record IsThursdayOf (n y : ℤ) (ordinal : ℕ) : Type 0 where
  pub year_in_range : IsYear y
  pub date : IsOrdinalDate y ordinal
  pub day : day_of_ordinal_date y ordinal ≡ thursday_of n

thursday_at : (n y : ℤ) (ordinal : ℕ) → IsDay n → IsOrdinalDate y ordinal → day_of_ordinal_date y ordinal ≡ thursday_of n → IsThursdayOf n y ordinal
thursday_at n y ordinal h date e =
    record {
      year_in_range = rw (year_of-is (thursday_of n) y ordinal date e) at (IsYear-year_of (thursday_of n) (IsDay-thursday_of n h));
      date = date;
      day = e;
    }

-- it lies in the year before, or in the next
pub IsThursdayOf-previous : (n y previous : ℤ) (ordinal days thursday : ℕ) → IsYear y → IsOrdinalDate y ordinal → day_of_ordinal_date y ordinal ≡ n →
    previous +ℤ pos 1 ≡ y → days ≡ weekday_of n → ordinal + 3 ≤ days → thursday ≡ days_in_year previous + (ordinal + 3) - days →
    IsThursdayOf n previous thursday
IsThursdayOf-previous n y previous ordinal days thursday year date day before weekday early is =
    let bound = weekday_of-bound n in
    let length = days_in_year_bounds previous in
    let start = rw before at (year_start-next previous) in
    thursday_at n previous thursday (rw day at (IsDay-ordinal_date y ordinal year date)) (omega (arith, length, date.first))
    (omega (arith, signed_arith, date.first, length))

pub IsThursdayOf-next : (n y next : ℤ) (ordinal days thursday : ℕ) → IsYear y → IsOrdinalDate y ordinal → day_of_ordinal_date y ordinal ≡ n →
    next ≡ y +ℤ pos 1 → days ≡ weekday_of n → days < ordinal + 3 → days_in_year y < ordinal + 3 - days → thursday ≡ ordinal + 3 - days - days_in_year y →
    IsThursdayOf n next thursday
IsThursdayOf-next n y next ordinal days thursday year date day after weekday late past is =
    let length = days_in_year_bounds next in
    let start = rw (← after) at (year_start-next y) in
    thursday_at n next thursday (rw day at (IsDay-ordinal_date y ordinal year date)) (omega (arith, date.last, length)) (omega (arith, signed_arith, date.last))

-- the day of an ISO week date, counted from 4 January
pub day_of_iso_week_date-is : (y january_4 n days : ℤ) (week weekday : ℕ) → january_4 ≡ day_of_ordinal_date y 4 → n ≡ january_4 +ℤ days →
    january_4 +ℤ days ≡ monday_of january_4 +ℤ pos ((week - 1) * 7) +ℤ pos weekday → n ≡ day_of_iso_week_date y week weekday
day_of_iso_week_date-is y january_4 n days week weekday e f g =
    let start : january_4 ≡ year_start y +ℤ pos 3 = omega (arith, signed_arith) in
    rw start at f ∙ rw start at g

pub ruleset weekday_parts = (signed_arith, weekday_of-parts)

pub ruleset week_numbers = (iso_week_of-closed, sunday_week_of-closed, monday_week_of-closed)

pub ruleset year_weeks = (weeks_in_year-closed, days_in_year_bounds, weekday_of-bound)
