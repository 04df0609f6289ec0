-- ISO week dates: the weeks of a year, the day of an ISO week date, and the ISO week date of a day.
use Rattle.std.proofs.Common.{◌≡◌, ℕ, ◌+◌, ◌-◌, ◌/◌, ◌*◌, ◌%◌, ◌<◌, ◌≤◌, refl, sym, arith, ℤ, pos, ◌+ℤ◌, Ok}
use Rattle.calendar_values.specs.Calendar.{days_in_year, year_start, year_of, ordinal_of, IsOrdinalDate, day_of_ordinal_date}
use Rattle.calendar_values.specs.Constructors.{iso_week_date}
use Rattle.calendar_values.specs.Dates.{ShowsIsoWeekDate}
use Rattle.calendar_values.specs.DayLemmas.{IsOrdinalDate-of, ordinal_of-start, year_of-is, ordinal_of-is, IsYear-year_of}
use Rattle.calendar_values.specs.OutcomeLemmas.{Gives-day, IsOneAnswer-iso_week_date}
use Rattle.calendar_values.specs.Range.{IsDay}
use Rattle.calendar_values.specs.SignedArith.{signed_arith}
use Rattle.calendar_values.specs.WeekLemmas.{weekday_of-parts, weekday_of-bound, weekday_of-add, weekday_of-thursday_of}
use Rattle.calendar_values.specs.WeekLemmas.{count_weekday-closed, iso_week_of-closed, IsDay-thursday_of}
use Rattle.calendar_values.specs.Weeks.{weekday_of, thursday_of, iso_year_of, iso_week_of, weeks_in_year, day_of_iso_week_date}
use Rattle.calendar_values.specs.YearLemmas.{days_in_year_bounds}

-- the number of Thursdays of a year, by the day of the week of 1 January
pub weeks_in_year-closed : (y : ℤ) → weeks_in_year y ≡ (days_in_year y + (weekday_of (year_start y) + 10) % 7) / 7
weeks_in_year-closed y = omega (arith, count_weekday-closed 3 (year_start y) (days_in_year y) (omega arith))

pub weeks_in_year-most : (y : ℤ) → weeks_in_year y ≤ 53
weeks_in_year-most y = omega (arith, weeks_in_year-closed y, days_in_year_bounds y)

-- the day of a year, a week of that year and a day of the week has all three
pub ShowsIsoWeekDate-day : (y : ℤ) (week weekday : ℕ) → 1 ≤ week → week ≤ weeks_in_year y → weekday < 7 →
    ShowsIsoWeekDate y week weekday (day_of_iso_week_date y week weekday)
ShowsIsoWeekDate-day y week weekday first last bound =
    let january_4 = year_start y +ℤ pos 3 in
    let n = day_of_iso_week_date y week weekday in
    let low = weekday_of-bound january_4 in
    let ordinal = week * 7 - weekday_of january_4 in
    let same : weekday_of n ≡ weekday = omega (arith, signed_arith, weekday_of-parts n, weekday_of-parts january_4) in
    let date : IsOrdinalDate y ordinal = record {
      first = omega arith;
      last = omega (arith, weeks_in_year-closed y, weekday_of-add (year_start y) january_4 3 refl, weekday_of-bound (year_start y));
    } in
    let thursday : day_of_ordinal_date y ordinal ≡ thursday_of n = omega (arith, signed_arith) in
    record {
      year = year_of-is (thursday_of n) y ordinal date thursday;
      week = omega (arith, iso_week_of-closed n, ordinal_of-is (thursday_of n) y ordinal date thursday);
      weekday = same;
    }

-- the ISO week of a day is a week of its ISO year
pub iso_week_of-first : (n : ℤ) → 1 ≤ iso_week_of n
iso_week_of-first n = let place = IsOrdinalDate-of (thursday_of n) in omega (arith, iso_week_of-closed n, place.first)

pub iso_week_of-last : (n : ℤ) → iso_week_of n ≤ weeks_in_year (iso_year_of n)
iso_week_of-last n =
    let t = thursday_of n in
    let place = IsOrdinalDate-of t in
    omega (arith, place.last, weeks_in_year-closed (year_of t), count_weekday-closed 3 (year_start (year_of t)) (ordinal_of t) (omega arith))

-- the day of the ISO week date of a day is that day
pub day_of_iso_week_date-of : (n : ℤ) → day_of_iso_week_date (iso_year_of n) (iso_week_of n) (weekday_of n) ≡ n
day_of_iso_week_date-of n =
    let t = thursday_of n in
    let place = IsOrdinalDate-of t in
    omega (
      arith,
      signed_arith,
      ordinal_of-start t,
      place.first,
      iso_week_of-closed n,
      weekday_of-thursday_of n,
      weekday_of-parts t,
      weekday_of-parts (year_start (iso_year_of n) +ℤ pos 3),
    )

-- the ISO week date of a day of the range returns that day
pub iso_week_date-of : (n : ℤ) → IsDay n → iso_week_date (iso_year_of n) (iso_week_of n) (weekday_of n) ≡ Ok n
iso_week_date-of n h =
    let year = IsYear-year_of (thursday_of n) (IsDay-thursday_of n h) in
    let given =
    Gives-day (iso_year_of n) n (iso_week_of n) (weekday_of n) year (iso_week_of-first n) (iso_week_of-last n) h (sym (day_of_iso_week_date-of n)) in
    sym given.equation

-- a day that an ISO week date returns has that ISO week date
pub iso_week_date-shows : (y n : ℤ) (week weekday : ℕ) → weekday < 7 → iso_week_date y week weekday ≡ Ok n → ShowsIsoWeekDate y week weekday n
iso_week_date-shows y n week weekday bound e =
    let given = rw e at (IsOneAnswer-iso_week_date y week weekday) in
    rw given.value.1 (ShowsIsoWeekDate-day y week weekday given.value.0.1.0.0 given.value.0.1.0.1 bound)
