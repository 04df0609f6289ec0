-- What an accepted date says of its parts.
use Rattle.std.proofs.Common.{◌≡◌, ℕ, ◌≤◌, Bool, true, false, ◌||◌, ◌==◌, cond, refl, arith, sym, ◌∙◌, ℤ, Ok, Err, nat_lt}
use Rattle.std.proofs.lemmas.Bool.Decides.{nat_tests}
use Rattle.calendar_values.specs.Calendar.{is_leap_year, days_in_year, days_in_month, year_of, month_of, day_of_month_of, day_of_calendar_date}
use Rattle.calendar_values.specs.Calendar.{day_of_ordinal_date, IsCalendarDate, IsOrdinalDate}
use Rattle.calendar_values.specs.Range.{first_year, last_year, is_outside}
use Rattle.calendar_values.specs.Constructors.{calendar_date, ordinal_date}
use Rattle.calendar_values.specs.Refusals.{Refusal}
use Rattle.calendar_values.specs.Laws.{IsOnlyDay}
use Rattle.calendar_values.specs.CalendarDateLemmas.{day_of_calendar_date-of, year_of-calendar_date, month_of-calendar_date, day_of_month_of-calendar_date}

-- where a test does not refuse, the value is given
not_refused : {A : Type 0} (test : Bool) (refusal : Refusal) (x y : A) → cond test (Err refusal) (Ok x) ≡ Ok y → (test ≡ false) × (x ≡ y)
not_refused true refusal x y e = cc
not_refused false refusal x y e = (refl, cc)

-- an accepted date is one of the calendar, and is its day number
pub calendar_date-accepted : (y n : ℤ) (m d : ℕ) → 1 ≤ m → m ≤ 12 → calendar_date y m d ≡ Ok n → IsCalendarDate y m d × (day_of_calendar_date y m d ≡ n)
unfolding calendar_date
calendar_date-accepted y n m d first last e =
    let accepted = not_refused (is_outside first_year last_year y || ((d == 0) || nat_lt (days_in_month (is_leap_year y) m) d)) _ _ n e in
    let tested = accepted.0 in
    (record { month_first = first; month_last = last; day_first = grind (arith, nat_tests); day_last = grind (arith, nat_tests) }, accepted.1)

pub ordinal_date-accepted : (y n : ℤ) (o : ℕ) → ordinal_date y o ≡ Ok n → IsOrdinalDate y o × (day_of_ordinal_date y o ≡ n)
unfolding ordinal_date
ordinal_date-accepted y n o e =
    let accepted = not_refused (is_outside first_year last_year y || ((o == 0) || nat_lt (days_in_year y) o)) _ _ n e in
    let tested = accepted.0 in
    (record { first = grind (arith, nat_tests); last = grind (arith, nat_tests) }, accepted.1)

same_date : (y z : ℤ) (m l d e : ℕ) → y ≡ z → m ≡ l → d ≡ e → day_of_calendar_date y m d ≡ day_of_calendar_date z l e
same_date y z m l d e year month day = rw (year, month, day)

-- it is the only day that shows its parts
pub IsOnlyDay-accepted : (y n : ℤ) (m d : ℕ) → 1 ≤ m → m ≤ 12 → calendar_date y m d ≡ Ok n → IsOnlyDay n y m d
IsOnlyDay-accepted y n m d first last e =
    let accepted = calendar_date-accepted y n m d first last e in
    record {
      year = rw (← accepted.1) (year_of-calendar_date y m d accepted.0);
      month = rw (← accepted.1) (month_of-calendar_date y m d accepted.0);
      day = rw (← accepted.1) (day_of_month_of-calendar_date y m d accepted.0);
      only = λ k year month day. sym (day_of_calendar_date-of k) ∙ same_date (year_of k) y (month_of k) m (day_of_month_of k) d year month day ∙ accepted.1;
    }
