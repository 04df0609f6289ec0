-- The day of the week of the days found by it.
use Rattle.std.proofs.Common.{◌≡◌, ℕ, ◌+◌, ◌*◌, ◌%◌, ◌<◌, arith, ℤ, ◌+ℤ◌, ◌-ℤ◌, pos}
use Rattle.calendar_values.specs.Weeks.{weekday_of}
use Rattle.calendar_values.specs.WeekLemmas.{weekday_of-bound, weekday_of-days_later, weekday_of-days_earlier}

-- some days later it is the day of the week that is as many days on
pub weekday_of-later : (n : ℤ) (weekday k : ℕ) → (weekday_of n + k) % 7 ≡ weekday → weekday_of (n +ℤ pos k) ≡ weekday
weekday_of-later n weekday k e = omega (arith, weekday_of-days_later n k, e)

-- some days earlier it is the day of the week from which this one is as many days on
pub weekday_of-earlier : (n : ℤ) (weekday k : ℕ) → weekday < 7 → (weekday + k) % 7 ≡ weekday_of n → weekday_of (n -ℤ pos k) ≡ weekday
weekday_of-earlier n weekday k h e = omega (arith, weekday_of-days_earlier n k, h, e)

-- for the calls that find such days
pub ruleset occurrences = (weekday_of-later, weekday_of-earlier)
