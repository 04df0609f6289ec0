-- The rules on ISO weeks that callers name: at most 53 in a year, and the Monday of a week.
use Rattle.std.proofs.Common.{◌≡◌, ℕ, ℤ, pos, ◌+ℤ◌, ◌-ℤ◌, arith}
use Rattle.calendar_values.specs.Dates.{ShowsIsoWeekDate}
use Rattle.calendar_values.specs.IsoWeekDateLemmas.{weeks_in_year-most, day_of_iso_week_date-of}
use Rattle.calendar_values.specs.SignedArith.{signed_arith}
use Rattle.calendar_values.specs.WeekLemmas.{weekday_of-add, weekday_of-bound}
use Rattle.calendar_values.specs.Weeks.{weekday_of, iso_year_of, iso_week_of, monday_of, day_of_iso_week_date}

-- the Monday of the week date of a day is the Monday of the week
pub day_of_iso_week_date-monday : (n : ℤ) → day_of_iso_week_date (iso_year_of n) (iso_week_of n) 0 ≡ monday_of n
day_of_iso_week_date-monday n = omega (arith, signed_arith, day_of_iso_week_date-of n)

-- the Monday of the week is also the day of the same ISO year and week whose day of the week is Monday
pub monday_of-shown : (n d y : ℤ) (w : ℕ) → ShowsIsoWeekDate y w 0 d → y ≡ iso_year_of n → w ≡ iso_week_of n → d ≡ n -ℤ pos (weekday_of n)
monday_of-shown n d y w h e f =
    let there = rw (h.week, h.year, h.weekday) at (day_of_iso_week_date-of d) in
    let here = rw (e, f) at there in
    omega (arith, signed_arith, day_of_iso_week_date-of n)

-- two weeks later it is the same day of the week
pub weekday_of-two_weeks_later : (a b : ℤ) → b ≡ a +ℤ pos 14 → weekday_of b ≡ weekday_of a
weekday_of-two_weeks_later a b e = omega (arith, weekday_of-add a b 14 e, weekday_of-bound a)

-- a caller who lists `iso_weeks` steps from a week date to the Monday of its week, and to the day two weeks later
pub ruleset iso_weeks = (weeks_in_year-most, day_of_iso_week_date-monday, monday_of-shown, weekday_of-two_weeks_later)
