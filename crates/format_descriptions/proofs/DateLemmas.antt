-- The date of parts is the only one that has them all.
use Rattle.std.proofs.Common.{◌≡◌, ℕ, ◌+◌, ◌*◌, ◌<◌, ◌≤◌, ◌==◌, ◌||◌, ◌&&◌, Bool, true, false, refl, sym, arith, ℤ, unsigned_abs}
use Rattle.std.proofs.Common.{Option, Some, None, Result, Ok, Err, inl, inr}
use Rattle.std.specs.Prelude.{IfSome, IfOk, IsTrue, nat_lt, is_some}
use Rattle.std.specs.Cmp.{signed_Decides}
use Rattle.std.proofs.lemmas.Bool.{cases_Bool, and_parts}
use Rattle.std.proofs.lemmas.Bool.Decides.{nat_tests}
use Rattle.calendar_values.specs.Calendar.{year_of, month_of, day_of_month_of, ordinal_of, is_leap_year, days_in_month, days_in_year, year_start}
use Rattle.calendar_values.specs.Calendar.{day_of_calendar_date, day_of_ordinal_date}
use Rattle.calendar_values.specs.CalendarDateLemmas.{IsCalendarDate-of, days_in_month_bounds, day_of_calendar_date-of}
use Rattle.calendar_values.specs.Constructors.{iso_week_date}
use Rattle.calendar_values.specs.DayLemmas.{IsOrdinalDate-of, IsYear-year_of, day_of_ordinal_date-of}
use Rattle.calendar_values.specs.IsoWeekDateLemmas.{iso_week_date-of, iso_week_of-last, weeks_in_year-most}
use Rattle.calendar_values.specs.Range.{first_year, last_year, is_outside, IsDay}
use Rattle.calendar_values.specs.Refusals.{Refusal}
use Rattle.calendar_values.specs.SignedArith.{signed_arith}
use Rattle.calendar_values.specs.WeekLemmas.{weekday_of-bound, weekday_of-ordinal, count_weekday-closed}
use Rattle.calendar_values.specs.Weeks.{weekday_of, iso_year_of, iso_week_of, sunday_week_of, monday_week_of, count_weekday_of_year}
use Rattle.calendar_values.specs.YearLemmas.{days_in_year_bounds}
use Rattle.format_descriptions.specs.ClockValues.{or_zero}
use Rattle.format_descriptions.specs.PartTests.{fits, fits_signed, fits_choice}
use Rattle.format_descriptions.specs.Values.{HasYearParts, HasDateParts, year_known, calendar_year, iso_year, tells_day}
use Rattle.format_descriptions.specs.Values.{tells_iso_day, tells_date}
use Rattle.format_descriptions.specs.Values.{or_wrong, first_of, wrong_year, wrong_day, wrong_week, wrong_date, day_unless, day_with, month_day, year_day}
use Rattle.format_descriptions.specs.Values.{week_ordinal}
use Rattle.format_descriptions.specs.Values.{week_day, iso_day_with, iso_day, day_in_iso_year, day_in_year, day_by_year, date_of_parts}
use Rattle.format_descriptions.specs.declared.parts.Parts.{Parts}
use Rattle.format_descriptions.specs.declared.value_refusal.Field.{Field}
use Rattle.format_descriptions.specs.declared.value_refusal.Field.TheVariants.{Year, Ordinal, SundayWeek, MondayWeek}
use Rattle.format_descriptions.specs.declared.value_refusal.ValueRefusal.{ValueRefusal}
use Rattle.format_descriptions.proofs.PartLemmas.{fits-same, fits_signed-same, fits_choice-same, signed-of}

-- no month has more days, and no year
pub most_of_month : (is_leap : Bool) (m : ℕ) → days_in_month is_leap m ≤ 31
most_of_month is_leap m = (days_in_month_bounds is_leap m).1

pub most_of_year : (y : ℤ) → days_in_year y ≤ 366
most_of_year y = (days_in_year_bounds y).1

-- what fits a part is it
pub fits-is : (known : Option ℕ) (n : ℕ) → fits known n ≡ true → IfSome known (λ m. m ≡ n)
fits-is None n h = tt
fits-is (Some m) n h = grind (arith, nat_tests, h)

pub fits_signed-is : (known : Option ℤ) (n : ℤ) → fits_signed known n ≡ true → IfSome known (λ m. m ≡ n)
fits_signed-is None n h = tt
fits_signed-is (Some m) n h = (signed_Decides m n).0 h

pub fits_choice-is : (known : Option Bool) (b : Bool) → fits_choice known b ≡ true → IfSome known (λ c. c ≡ b)
fits_choice-is None b h = tt
fits_choice-is (Some true) b h = sym h
fits_choice-is (Some false) true h = absurd cc
fits_choice-is (Some false) false h = refl

-- a number that is known
pub known-number : (known : Option ℕ) (n : ℕ) → IfSome known (λ k. k ≡ n) → IsTrue (is_some known) → or_zero known ≡ n
known-number None n h some = absurd cc
known-number (Some k) n h some = h

-- the year that is known is the year
year_known-is : (year : Option ℤ) (century : Option ℕ) (sign : Option Bool) (last_two : Option ℕ) (y : ℤ) → HasYearParts year century sign last_two y
    → IfSome (year_known year century sign last_two) (λ known. known ≡ y)
year_known-is (Some k) century sign last_two y h = h.whole
year_known-is None (Some c) (Some s) (Some l) y h = elim (cases_Bool (nat_lt 9_999 c || nat_lt 99 l)) [
  | inl t ↦ rw t tt
  | inr f ↦
      let whole : c * 100 + l ≡ unsigned_abs y = omega (arith, h.hundreds, h.last) in rw (f, whole, h.sign) (signed-of y)
]
year_known-is None (Some c) (Some s) None y h = tt
year_known-is None (Some c) None last_two y h = tt
year_known-is None None sign last_two y h = tt

-- a day whose parts these are is kept
wrong_year-none : (year : Option ℤ) (century : Option ℕ) (sign : Option Bool) (last_two : Option ℕ) (y : ℤ) (a b c : Field)
    → HasYearParts year century sign last_two y → wrong_year year century sign last_two y a b c ≡ None
unfolding wrong_year
wrong_year-none year century sign last_two y a b c h =
    rw (fits_signed-same year y h.whole, fits-same century _ h.hundreds, fits_choice-same sign _ h.sign, fits-same last_two _ h.last) refl

pub day_with-only : (p : Parts) (day : ℤ) → HasDateParts p day → day_with p day ≡ Ok day
unfolding wrong_date wrong_day wrong_week
day_with-only p day h =
    rw (
      fits-same p.month (month_of day) h.month,
      fits-same p.day (day_of_month_of day) h.day_of_month,
      fits-same p.ordinal (ordinal_of day) h.ordinal,
      fits-same p.weekday (weekday_of day) h.weekday,
      fits-same p.iso_week (iso_week_of day) h.iso_week,
      fits-same p.sunday_week (sunday_week_of day) h.sunday_week,
      fits-same p.monday_week (monday_week_of day) h.monday_week,
      wrong_year-none _ _ _ _ (year_of day) _ _ _ h.year,
      wrong_year-none _ _ _ _ (iso_year_of day) _ _ _ h.iso_year,
    ) refl

month_day-only : (p : Parts) (day : ℤ) → HasDateParts p day → month_day p (year_of day) (month_of day) (day_of_month_of day) ≡ Ok day
unfolding month_day
month_day-only p day h =
    let date = IsCalendarDate-of day in
    let month : (month_of day == 0 || nat_lt 12 (month_of day)) ≡ false = grind (arith, nat_tests, date.month_first, date.month_last) in
    let inside : (day_of_month_of day == 0 || nat_lt (days_in_month (is_leap_year (year_of day)) (month_of day)) (day_of_month_of day)) ≡ false =
    grind (arith, nat_tests, date.day_first, date.day_last)
    in
    rw (month, inside, day_of_calendar_date-of day) (day_with-only p day h)

year_day-only : (p : Parts) (day : ℤ) (wrong : Field) → HasDateParts p day → year_day p (year_of day) (ordinal_of day) wrong ≡ Ok day
unfolding year_day
year_day-only p day wrong h =
    let date = IsOrdinalDate-of day in
    let inside : (ordinal_of day == 0 || nat_lt (days_in_year (year_of day)) (ordinal_of day)) ≡ false =
    grind (arith, nat_tests, date.first, date.last)
    in
    rw (inside, day_of_ordinal_date-of day) (day_with-only p day h)

-- the day of the year of its week
week_ordinal-sunday : (day : ℤ) → week_ordinal 6 (year_of day) (sunday_week_of day) (weekday_of day) ≡ ordinal_of day
unfolding week_ordinal
week_ordinal-sunday day =
    let start = year_start (year_of day) in
    let date = IsOrdinalDate-of day in
    omega (arith, count_weekday-closed 6 start (ordinal_of day) (omega arith), weekday_of-ordinal day, weekday_of-bound start, date.first)

week_ordinal-monday : (day : ℤ) → week_ordinal 0 (year_of day) (monday_week_of day) (weekday_of day) ≡ ordinal_of day
unfolding week_ordinal
week_ordinal-monday day =
    let start = year_start (year_of day) in
    let date = IsOrdinalDate-of day in
    omega (arith, count_weekday-closed 0 start (ordinal_of day) (omega arith), weekday_of-ordinal day, weekday_of-bound start, date.first)

-- a year has no more weeks
most_weeks : (first : ℕ) (day : ℤ) → first < 7 → nat_lt 53 (count_weekday_of_year first day) ≡ false
most_weeks first day low =
    let date = IsOrdinalDate-of day in
    let most = days_in_year_bounds (year_of day) in
    let closed = count_weekday-closed first (year_start (year_of day)) (ordinal_of day) low in
    let least : count_weekday_of_year first day ≤ 53 = omega (arith, date.last, most, closed) in grind (arith, nat_tests, least)

most_weekday : (day : ℤ) → nat_lt 6 (weekday_of day) ≡ false
most_weekday day = grind (arith, nat_tests, weekday_of-bound day)

sunday_day-only : (p : Parts) (day : ℤ) (wrong : Field) → HasDateParts p day
    → week_day 6 p (year_of day) (sunday_week_of day) (weekday_of day) wrong ≡ Ok day
unfolding week_day
sunday_day-only p day wrong h =
    rw (most_weeks 6 day (omega arith), most_weekday day, week_ordinal-sunday day) (year_day-only p day wrong h)

monday_day-only : (p : Parts) (day : ℤ) (wrong : Field) → HasDateParts p day
    → week_day 0 p (year_of day) (monday_week_of day) (weekday_of day) wrong ≡ Ok day
unfolding week_day
monday_day-only p day wrong h =
    rw (most_weeks 0 day (omega arith), most_weekday day, week_ordinal-monday day) (year_day-only p day wrong h)

iso_day-only : (p : Parts) (day : ℤ) → IsDay day → HasDateParts p day → iso_day p (iso_year_of day) (iso_week_of day) (weekday_of day) ≡ Ok day
unfolding iso_day
iso_day-only p day in_range h =
    let least : iso_week_of day ≤ 53 = omega (arith, iso_week_of-last day, weeks_in_year-most (iso_year_of day)) in
    let week : nat_lt 53 (iso_week_of day) ≡ false = grind (arith, nat_tests, least) in
    rw (week, most_weekday day, iso_week_date-of day in_range) (day_with-only p day h)

day_in_iso_year-only : (p : Parts) (day : ℤ) (missing : Field) (y : Option ℤ) → IsDay day → HasDateParts p day → IfSome y (λ k. k ≡ iso_year_of day)
    → IsTrue (is_some y && tells_iso_day p) → day_in_iso_year p missing y ≡ Ok day
day_in_iso_year-only p day missing None in_range h hy tells = absurd cc
day_in_iso_year-only p day missing (Some y) in_range h hy tells =
    let both = and_parts (is_some p.iso_week) (is_some p.weekday) tells in
    rw (tells, hy, known-number p.iso_week _ h.iso_week both.0, known-number p.weekday _ h.weekday both.1) (iso_day-only p day in_range h)

-- a day of its year is found by the first way whose parts are known
day_in_year-only : (p : Parts) (day : ℤ) → IsDay day → HasDateParts p day
    → IsTrue (tells_day p || (is_some (iso_year p) && tells_iso_day p)) → day_in_year p (year_of day) ≡ Ok day
unfolding day_in_year
day_in_year-only p day in_range h tells = elim (cases_Bool (is_some p.month && is_some p.day)) [
  | inl t ↦
      let both = and_parts (is_some p.month) (is_some p.day) t in
      rw (t, known-number p.month _ h.month both.0, known-number p.day _ h.day_of_month both.1) (month_day-only p day h)
  | inr f ↦ elim (cases_Bool (is_some p.ordinal)) [
    | inl t ↦ rw (f, t, known-number p.ordinal _ h.ordinal t) (year_day-only p day Ordinal h)
    | inr g ↦ elim (cases_Bool (is_some p.weekday && is_some p.sunday_week)) [
      | inl t ↦
          let both = and_parts (is_some p.weekday) (is_some p.sunday_week) t in
          rw (f, g, t, known-number p.sunday_week _ h.sunday_week both.1, known-number p.weekday _ h.weekday both.0) (sunday_day-only p day SundayWeek h)
      | inr k ↦ elim (cases_Bool (is_some p.weekday && is_some p.monday_week)) [
        | inl t ↦
            let both = and_parts (is_some p.weekday) (is_some p.monday_week) t in
            rw (f, g, k, t, known-number p.monday_week _ h.monday_week both.1, known-number p.weekday _ h.weekday both.0) (monday_day-only p day MondayWeek h)
        | inr l ↦
            let iso : IsTrue (is_some (iso_year p) && tells_iso_day p) = rw (f, g, k, l) at tells in
            rw (f, g, k, l) (day_in_iso_year-only p day _ (iso_year p) in_range h (year_known-is _ _ _ _ _ h.iso_year) iso)
      ]
    ]
  ]
]

day_by_year-only : (p : Parts) (day : ℤ) (y : Option ℤ) → IsDay day → HasDateParts p day → IfSome y (λ k. k ≡ year_of day)
    → IsTrue ((is_some y && tells_day p) || (is_some (iso_year p) && tells_iso_day p)) → day_by_year p y ≡ Ok day
day_by_year-only p day None in_range h hy tells = day_in_iso_year-only p day Year (iso_year p) in_range h (year_known-is _ _ _ _ _ h.iso_year) tells
day_by_year-only p day (Some y) in_range h hy tells =
    let inside : is_outside first_year last_year (year_of day) ≡ false = grind (arith, signed_arith, IsYear-year_of day in_range) in
    rw (hy, inside) (day_in_year-only p day in_range h tells)

-- the only day that has these parts is what they are read as
pub date_of_parts-only : (p : Parts) (day : ℤ) → IsDay day → IsTrue (tells_date p) → HasDateParts p day → date_of_parts p ≡ Ok day
unfolding date_of_parts
date_of_parts-only p day in_range tells h = day_by_year-only p day (calendar_year p) in_range h (year_known-is _ _ _ _ _ h.year) tells

-- where no part is wrong, each fits
pub or_wrong-none : (b : Bool) (field : Field) (others : Option Field) → or_wrong b field others ≡ None → (b ≡ true) × (others ≡ None)
or_wrong-none true field others h = (refl, h)
or_wrong-none false field others h = absurd cc

first_of-none : (a b : Option Field) → first_of a b ≡ None → (a ≡ None) × (b ≡ None)
first_of-none None b h = (refl, h)
first_of-none (Some field) b h = absurd cc

pub day_unless-none : (day other : ℤ) (o : Option Field) → day_unless other o ≡ Ok day → (o ≡ None) × (other ≡ day)
day_unless-none day other None h = (refl, cc)
day_unless-none day other (Some field) h = absurd cc

HasYearParts-of : (year : Option ℤ) (century : Option ℕ) (sign : Option Bool) (last_two : Option ℕ) (y : ℤ) (a b c : Field)
    → wrong_year year century sign last_two y a b c ≡ None → HasYearParts year century sign last_two y
unfolding wrong_year
HasYearParts-of year century sign last_two y a b c none =
    let first = or_wrong-none _ _ _ none in
    let second = or_wrong-none _ _ _ first.1 in
    let third = or_wrong-none _ _ _ second.1 in
    let fourth = or_wrong-none _ _ _ third.1 in
    record {
      whole = fits_signed-is year _ first.0;
      hundreds = fits-is century _ second.0;
      sign = fits_choice-is sign _ third.0;
      last = fits-is last_two _ fourth.0;
    }

HasDateParts-of : (p : Parts) (day : ℤ) → wrong_date p day ≡ None → HasDateParts p day
unfolding wrong_date wrong_day wrong_week
HasDateParts-of p day none =
    let days = first_of-none _ _ none in
    let weeks = first_of-none _ _ days.1 in
    let years = first_of-none _ _ weeks.1 in
    let month = or_wrong-none _ _ _ days.0 in
    let day_of_month = or_wrong-none _ _ _ month.1 in
    let ordinal = or_wrong-none _ _ _ day_of_month.1 in
    let weekday = or_wrong-none _ _ _ ordinal.1 in
    let iso_week = or_wrong-none _ _ _ weeks.0 in
    let sunday_week = or_wrong-none _ _ _ iso_week.1 in
    let monday_week = or_wrong-none _ _ _ sunday_week.1 in
    record {
      year = HasYearParts-of _ _ _ _ _ _ _ _ years.0;
      iso_year = HasYearParts-of _ _ _ _ _ _ _ _ years.1;
      month = fits-is p.month _ month.0;
      day_of_month = fits-is p.day _ day_of_month.0;
      ordinal = fits-is p.ordinal _ ordinal.0;
      weekday = fits-is p.weekday _ weekday.0;
      iso_week = fits-is p.iso_week _ iso_week.0;
      sunday_week = fits-is p.sunday_week _ sunday_week.0;
      monday_week = fits-is p.monday_week _ monday_week.0;
    }

day_with-has : (p : Parts) (day other : ℤ) → day_with p other ≡ Ok day → HasDateParts p day
day_with-has p day other is =
    let both = day_unless-none day other (wrong_date p other) is in rw (← both.1) (HasDateParts-of p other both.0)

month_day-has : (p : Parts) (day y : ℤ) (m d : ℕ) → month_day p y m d ≡ Ok day → HasDateParts p day
unfolding month_day
month_day-has p day y m d is = elim (cases_Bool (m == 0 || nat_lt 12 m)) [
  | inl t ↦ let e = rw t at is in absurd cc
  | inr f ↦ elim (cases_Bool (d == 0 || nat_lt (days_in_month (is_leap_year y) m) d)) [
    | inl t ↦ let e = rw (f, t) at is in absurd cc
    | inr g ↦ day_with-has p day (day_of_calendar_date y m d) (rw (f, g) at is)
  ]
]

year_day-has : (p : Parts) (day y : ℤ) (n : ℕ) (wrong : Field) → year_day p y n wrong ≡ Ok day → HasDateParts p day
unfolding year_day
year_day-has p day y n wrong is = elim (cases_Bool (n == 0 || nat_lt (days_in_year y) n)) [
  | inl t ↦ let e = rw t at is in absurd cc
  | inr g ↦ day_with-has p day (day_of_ordinal_date y n) (rw g at is)
]

week_day-has : (first : ℕ) (p : Parts) (day y : ℤ) (week weekday : ℕ) (wrong : Field) → week_day first p y week weekday wrong ≡ Ok day → HasDateParts p day
unfolding week_day
week_day-has first p day y week weekday wrong is = elim (cases_Bool (nat_lt 53 week)) [
  | inl t ↦ let e = rw t at is in absurd cc
  | inr f ↦ elim (cases_Bool (nat_lt 6 weekday)) [
    | inl t ↦ let e = rw (f, t) at is in absurd cc
    | inr g ↦ year_day-has p day y (week_ordinal first y week weekday) wrong (rw (f, g) at is)
  ]
]

iso_day_with-has : (p : Parts) (day : ℤ) (r : Result ℤ Refusal) → iso_day_with p r ≡ Ok day → HasDateParts p day
iso_day_with-has p day (Ok other) is = day_with-has p day other is
iso_day_with-has p day (Err refusal) is = absurd cc

iso_day-has : (p : Parts) (day y : ℤ) (week weekday : ℕ) → iso_day p y week weekday ≡ Ok day → HasDateParts p day
unfolding iso_day
iso_day-has p day y week weekday is = elim (cases_Bool (nat_lt 53 week)) [
  | inl t ↦ let e = rw t at is in absurd cc
  | inr f ↦ elim (cases_Bool (nat_lt 6 weekday)) [
    | inl t ↦ let e = rw (f, t) at is in absurd cc
    | inr g ↦ iso_day_with-has p day (iso_week_date y week weekday) (rw (f, g) at is)
  ]
]

day_in_iso_year-has : (p : Parts) (day : ℤ) (missing : Field) (y : Option ℤ) → day_in_iso_year p missing y ≡ Ok day → HasDateParts p day
day_in_iso_year-has p day missing None is = absurd cc
day_in_iso_year-has p day missing (Some y) is = elim (cases_Bool (tells_iso_day p)) [
  | inl t ↦ iso_day-has p day y _ _ (rw t at is)
  | inr f ↦ let e = rw f at is in absurd cc
]

day_in_year-has : (p : Parts) (day y : ℤ) → day_in_year p y ≡ Ok day → HasDateParts p day
unfolding day_in_year
day_in_year-has p day y is = elim (cases_Bool (is_some p.month && is_some p.day)) [
  | inl t ↦ month_day-has p day y _ _ (rw t at is)
  | inr f ↦ elim (cases_Bool (is_some p.ordinal)) [
    | inl t ↦ year_day-has p day y _ _ (rw (f, t) at is)
    | inr g ↦ elim (cases_Bool (is_some p.weekday && is_some p.sunday_week)) [
      | inl t ↦ week_day-has 6 p day y _ _ _ (rw (f, g, t) at is)
      | inr k ↦ elim (cases_Bool (is_some p.weekday && is_some p.monday_week)) [
        | inl t ↦ week_day-has 0 p day y _ _ _ (rw (f, g, k, t) at is)
        | inr l ↦ day_in_iso_year-has p day _ (iso_year p) (rw (f, g, k, l) at is)
      ]
    ]
  ]
]

day_by_year-has : (p : Parts) (day : ℤ) (o : Option ℤ) → day_by_year p o ≡ Ok day → HasDateParts p day
day_by_year-has p day None is = day_in_iso_year-has p day Year (iso_year p) is
day_by_year-has p day (Some y) is = elim (cases_Bool (is_outside first_year last_year y)) [
  | inl t ↦ let e = rw t at is in absurd cc
  | inr f ↦ day_in_year-has p day y (rw f at is)
]

date-has : (p : Parts) (r : Result ℤ ValueRefusal) → date_of_parts p ≡ r → IfOk r (λ day. HasDateParts p day)
unfolding date_of_parts
date-has p (Ok day) e = day_by_year-has p day (calendar_year p) e
date-has p (Err refusal) e = tt

-- what parts are read as has them all
pub date_of_parts-has : (p : Parts) → IfOk (date_of_parts p) (λ day. HasDateParts p day)
date_of_parts-has p = date-has p (date_of_parts p) refl
