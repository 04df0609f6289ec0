-- The last nanosecond of a month in UTC, and the test that finds it.
use Rattle.std.proofs.Common.{◌≡◌, Bool, true, false, nat_eq, refl, sym, ap, ◌∙◌, arith, ℤ, pos, ◌+ℤ◌}
use Rattle.std.specs.Prelude.{◌&&◌}
use Rattle.std.proofs.lemmas.Bool.{eqb-true}
use Rattle.calendar_values.specs.Calendar.{IsCalendarDate, is_leap_year, year_of, month_of, day_of_month_of, day_of_calendar_date}
use Rattle.calendar_values.specs.CalendarDateLemmas.{IsCalendarDate-of, day_of_calendar_date-of, day_of_month_of-calendar_date, days_in_month_bounds}
use Rattle.calendar_values.specs.Clock.{IsClock}
use Rattle.calendar_values.specs.WallClock.{wall_clock, wall_day, wall_time}
use Rattle.calendar_values.specs.WallClockLemmas.{wall_clock-parts, wall_day-wall_clock, wall_time-wall_clock}
use Rattle.rfc3339.specs.LeapSeconds.{IsLastOfMonth, is_last_of_month}

both : (s t : Bool) → (s && t) ≡ true → (s ≡ true) × (t ≡ true)
both true t e = (refl, e)
both false t e = absurd cc

-- what the test finds is the last nanosecond of a month
pub is_last_of_month-is : (i : ℤ) → is_last_of_month i ≡ true → IsLastOfMonth i
is_last_of_month-is i t =
    let next = i +ℤ pos 1 in
    let n = wall_day next in
    let shown = both (nat_eq (day_of_month_of n) 1) (nat_eq (wall_time next) 0) t in
    let day = eqb-true (day_of_month_of n) 1 shown.0 in
    let time = eqb-true (wall_time next) 0 shown.1 in
    let first : day_of_calendar_date (year_of n) (month_of n) 1 ≡ n =
    ap (day_of_calendar_date (year_of n) (month_of n)) (sym day) ∙ day_of_calendar_date-of n in
    let date = IsCalendarDate-of n in
    let midnight : next ≡ wall_clock n 0 = sym (wall_clock-parts next) ∙ ap (wall_clock n) time in
    record {
      year = year_of n;
      month = month_of n;
      month_first = date.month_first;
      month_last = date.month_last;
      midnight = midnight ∙ ap (λ (d : ℤ). wall_clock d 0) (sym first);
    }

-- and it finds each
pub is_last_of_month-finds : (i : ℤ) → IsLastOfMonth i → is_last_of_month i ≡ true
is_last_of_month-finds i h =
    let clock : IsClock 0 = omega arith in
    let first = day_of_calendar_date h.year h.month 1 in
    let length = days_in_month_bounds (is_leap_year h.year) h.month in
    let date : IsCalendarDate h.year h.month 1 =
    record { month_first = h.month_first; month_last = h.month_last; day_first = omega arith; day_last = omega arith } in
    let day : wall_day (i +ℤ pos 1) ≡ first = ap wall_day h.midnight ∙ wall_day-wall_clock first 0 clock in
    let time : wall_time (i +ℤ pos 1) ≡ 0 = ap wall_time h.midnight ∙ wall_time-wall_clock first 0 clock in
    let shown : day_of_month_of (wall_day (i +ℤ pos 1)) ≡ 1 = ap day_of_month_of day ∙ day_of_month_of-calendar_date h.year h.month 1 date in
    rw (shown, time) refl
