-- Days of the year in a rule, and the seconds of its moments on a clock.
use Rattle.std.specs.Prelude.{◌≡◌, ℕ, ◌-◌, ◌*◌, ◌≤◌, if◌then◌else◌, ◌&&◌, Bool, nat_le, ℤ, pos, neg_ℤ, ◌+ℤ◌, ◌-ℤ◌, ◌≤ℤ◌, ◌<ℤ◌, int_lt}
use Rattle.std.specs.Int.{int_rem_euclid}
use Rattle.calendar_values.specs.Calendar.{year_start, is_leap_year, days_before_month, days_in_month}
use Rattle.calendar_values.specs.Month.{month_number}
use Rattle.zones.specs.declared.rule_day.RuleDay.{RuleDay}
use Rattle.zones.specs.declared.rule_day.RuleDay.TheVariants.{Weekday, Common, Counted}

-- a year that rules know: those of the seconds of zones are among them
abbrev pub IsRuleYear : ℤ → Type 0
IsRuleYear y = (neg_ℤ (pos 1_200_000) ≤ℤ y) × (y ≤ℤ pos 1_200_000)

-- a day that a rule can name
abbrev pub IsRuleDay : RuleDay → Type 0
IsRuleDay (Weekday month week weekday) = (1 ≤ week) × (week ≤ 5) × (weekday ≤ 6)
IsRuleDay (Common n) = (1 ≤ n) × (n ≤ 365)
IsRuleDay (Counted n) = n ≤ 365

-- the same as a test
abbrev pub is_rule_day : RuleDay → Bool
is_rule_day (Weekday month week weekday) = nat_le 1 week && (nat_le week 5 && nat_le weekday 6)
is_rule_day (Common n) = nat_le 1 n && nat_le n 365
is_rule_day (Counted n) = nat_le n 365

-- the day number of the first day of a month
abbrev pub month_start : ℤ → ℕ → ℤ
month_start y m = year_start y +ℤ pos (days_before_month (is_leap_year y) m)

-- how many days after this one the weekday comes, 0 for Sunday: day 0 is a Thursday
abbrev pub ahead_to : ℤ → ℕ → ℤ
ahead_to day weekday = int_rem_euclid (pos weekday -ℤ day -ℤ pos 4) (pos 7)

-- how many days after the first of a month the weekday comes in the week of the month, or for the last time for week 5,
-- where it comes for the first time so many days after it
unfoldable pub days_to_week : ℤ → ℕ → ℕ → ℤ
days_to_week ahead length week =
    if int_lt (ahead +ℤ pos (7 * (week - 1))) (pos length)
    then ahead +ℤ pos (7 * (week - 1))
    else ahead +ℤ pos (7 * (week - 1)) -ℤ pos 7

-- the day with the weekday in the week of a month that begins on this day
abbrev pub nth_weekday : ℤ → ℕ → ℕ → ℕ → ℤ
nth_weekday first length week weekday = first +ℤ days_to_week (ahead_to first weekday) length week

-- the day is in the month and has the weekday; the first 7 days have the first such day, the next 7 the second, and the
-- last 7 the one of week 5
pub record IsNthWeekday (first : ℤ) (length week weekday : ℕ) (day : ℤ) : Type 0 where
  pub low : first ≤ℤ day
  pub high : day <ℤ (first +ℤ pos length)
  pub weekday_is : int_rem_euclid (day +ℤ pos 4) (pos 7) ≡ pos weekday
  pub nth : week ≤ 4 → ((first +ℤ pos (7 * (week - 1))) ≤ℤ day) × (day <ℤ (first +ℤ pos (7 * week)))
  pub last : week ≡ 5 → (first +ℤ pos length) ≤ℤ (day +ℤ pos 7)

-- the day number of a rule's day in the year
unfoldable pub rule_day : RuleDay → ℤ → ℤ
rule_day (Weekday month week weekday) y = nth_weekday (month_start y (month_number month)) (days_in_month (is_leap_year y) (month_number month)) week
    weekday
rule_day (Common n) y = if is_leap_year y && nat_le 60 n then year_start y +ℤ pos n else year_start y +ℤ pos n -ℤ pos 1
rule_day (Counted n) y = year_start y +ℤ pos n
