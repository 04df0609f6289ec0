-- The outcome of a call that may fail is one answer: by a test, put in its place, and so for each constructor and replacement.
use Rattle.std.proofs.Common.{◌≡◌, ◌↔◌, ℕ, ◌≤◌, ◌==◌, ◌||◌, Bool, true, false, cond, refl, ap, arith, codes, List, Result, Ok, Err, OkIff, IfErr, nat_lt}
use Rattle.std.proofs.Common.{ℤ, ◌≤ℤ◌, pos, neg_ℤ, ◌-ℤ◌}
use Rattle.std.proofs.lemmas.Bool.Decides.{nat_tests}
use Rattle.std.proofs.lemmas.Int.{ints}
use Rattle.calendar_values.specs.Calendar.{epoch_julian_day, is_leap_year, days_in_year, days_in_month, day_of_calendar_date, day_of_ordinal_date}
use Rattle.calendar_values.specs.Calendar.{year_of, month_of, day_of_month_of}
use Rattle.calendar_values.specs.Clock.{clock_of_parts, AreTimeParts}
use Rattle.calendar_values.specs.Constructors.{calendar_date, calendar_date_outcome, ordinal_date, ordinal_date_outcome, julian_date, julian_date_outcome}
use Rattle.calendar_values.specs.Constructors.{clock_with, clock_outcome, iso_week_date, iso_week_date_outcome}
use Rattle.calendar_values.specs.Offsets.{least_offset, greatest_offset, AreOffsetParts, IsOffset, offset_refusal, seconds_of_signed_parts}
use Rattle.calendar_values.specs.Offsets.{offset_of_parts, offset_outcome, offset_of_seconds, offset_seconds_outcome}
use Rattle.calendar_values.specs.Outcomes.{Outcome, Gives, IsOneAnswer, answer_within, within, at_most}
use Rattle.calendar_values.specs.Range.{first_year, last_year, first_day, last_day, is_outside, IsDay, IsYear}
use Rattle.calendar_values.specs.Refusals.{Refusal, IsDateOfRange, IsOrdinalDateOfRange, IsIsoWeekDateOfRange}
use Rattle.calendar_values.specs.Refusals.{date_refusal, ordinal_refusal, iso_week_date_refusal, clock_refusal, outright_refusal, conditional_refusal}
use Rattle.calendar_values.specs.Weeks.{weeks_in_year, day_of_iso_week_date}
use Rattle.calendar_values.specs.Replacements.{month_outcome, day_outcome, ordinal_outcome}
use Rattle.calendar_values.specs.CalendarDateLemmas.{IsCalendarDate-of, days_in_month_bounds}
use Rattle.calendar_values.specs.DayLemmas.{IsYear-year_of}

-- an error or a value, by a test that is true if the arguments do not fit
pub IsOneAnswer-tested : {T : Type 0} (fits : Type 0) (test : Bool) (value : T) (refusal : Refusal) → (fits → test ≡ false) → (test ≡ false → fits)
    → IsOneAnswer (record { fits = fits; value = value; refusal = refusal; answer = cond test (Err refusal) (Ok value) })
IsOneAnswer-tested fits true value refusal there back = record { value = λ f. let e = there f in cc; refused = refl; equation = refl }
IsOneAnswer-tested fits false value refusal there back = record { value = (back refl, refl); refused = tt; equation = refl }

-- the outcome of a part up to a limit
pub IsOneAnswer-at_most : {T : Type 0} (limit : ℕ) (name : List ℕ) (part : ℕ) (value : T) → IsOneAnswer (at_most limit name part value)
IsOneAnswer-at_most limit name part value =
    IsOneAnswer-tested (part ≤ limit) (nat_lt limit part) value (outright_refusal name) (λ f. grind (arith, nat_tests)) (λ t. grind (arith, nat_tests))

placed : {S T : Type 0} (put : S → T) (answer : Result S Refusal) (fits : Type 0) (value : S) (refusal : Refusal) → OkIff answer fits value
    → IfErr answer (λ r. r ≡ refusal)
    → IsOneAnswer (record { fits = fits; value = put value; refusal = refusal; answer = answer_within put answer })
placed put (Ok x) fits value refusal given refused = record { value = (given.0, ap put given.1); refused = tt; equation = refl }
placed put (Err r) fits value refusal given refused = record { value = given; refused = refused; equation = refl }

-- the outcome with its value put in its place
pub IsOneAnswer-within : {S T : Type 0} (put : S → T) (outcome : Outcome S) → IsOneAnswer outcome → IsOneAnswer (within put outcome)
IsOneAnswer-within put outcome h = placed put outcome.answer outcome.fits outcome.value outcome.refusal h.value h.refused

pub IsOneAnswer-calendar_date : (y : ℤ) (m d : ℕ) → IsOneAnswer (calendar_date_outcome y m d)
unfolding calendar_date
IsOneAnswer-calendar_date y m d =
    IsOneAnswer-tested (IsDateOfRange y m d) (is_outside first_year last_year y || ((d == 0) || nat_lt (days_in_month (is_leap_year y) m) d))
    (day_of_calendar_date y m d) (date_refusal y d) (λ f. grind (arith, nat_tests, ints)) (λ t. grind (arith, nat_tests, ints))

pub IsOneAnswer-ordinal_date : (y : ℤ) (o : ℕ) → IsOneAnswer (ordinal_date_outcome y o)
unfolding ordinal_date
IsOneAnswer-ordinal_date y o =
    IsOneAnswer-tested (IsOrdinalDateOfRange y o) (is_outside first_year last_year y || ((o == 0) || nat_lt (days_in_year y) o))
    (day_of_ordinal_date y o) (ordinal_refusal y o) (λ f. grind (arith, nat_tests, ints)) (λ t. grind (arith, nat_tests, ints))

pub IsOneAnswer-iso_week_date : (y : ℤ) (w d : ℕ) → IsOneAnswer (iso_week_date_outcome y w d)
unfolding iso_week_date
IsOneAnswer-iso_week_date y w d =
    IsOneAnswer-tested (IsIsoWeekDateOfRange y w d)
    (is_outside first_year last_year y || (((w == 0) || nat_lt (weeks_in_year y) w) || is_outside first_day last_day (day_of_iso_week_date y w d)))
    (day_of_iso_week_date y w d) (iso_week_date_refusal y w) (λ f. grind (arith, nat_tests, ints)) (λ t. grind (arith, nat_tests, ints))

-- the same for an answer that equals that of the outcome
Gives-answer : {T : Type 0} (outcome : Outcome T) (answer : Result T Refusal) → answer ≡ outcome.answer → IsOneAnswer outcome → Gives answer outcome
Gives-answer outcome answer e h = rw e h

iso_week_date-tested : (y : ℤ) (w d : ℕ) (outside weeks past : Bool) → is_outside first_year last_year y ≡ outside
    → ((w == 0) || nat_lt (weeks_in_year y) w) ≡ weeks → is_outside first_day last_day (day_of_iso_week_date y w d) ≡ past
    → iso_week_date y w d ≡ cond (outside || (weeks || past)) (Err (iso_week_date_refusal y w)) (Ok (day_of_iso_week_date y w d))
unfolding iso_week_date
iso_week_date-tested y w d outside weeks past e f g = rw (e, f, g) refl

inside_range : (first last n : ℤ) → first ≤ℤ n → n ≤ℤ last → is_outside first last n ≡ false
inside_range first last n low high = grind (arith, ints)

week_inside : (w most : ℕ) → 1 ≤ w → w ≤ most → ((w == 0) || nat_lt most w) ≡ false
week_inside w most first last = grind (arith, nat_tests)

-- a week that no year has
pub Gives-week : (y : ℤ) (w d : ℕ) → IsYear y → ((w == 0) || nat_lt 53 w) ≡ true → weeks_in_year y ≤ 53
    → Gives (Err (outright_refusal (codes "week"))) (iso_week_date_outcome y w d)
Gives-week y w d year out most =
    let inside = inside_range first_year last_year y year.0 year.1 in
    let weeks : ((w == 0) || nat_lt (weeks_in_year y) w) ≡ true = grind (arith, nat_tests) in
    Gives-answer (iso_week_date_outcome y w d) _ (rw (iso_week_date-tested y w d false true _ inside weeks refl, inside, out) refl)
    (IsOneAnswer-iso_week_date y w d)

-- a day, or one past the range
pub Gives-day : (y n : ℤ) (w d : ℕ) → IsYear y → 1 ≤ w → w ≤ weeks_in_year y → IsDay n → n ≡ day_of_iso_week_date y w d
    → Gives (Ok n) (iso_week_date_outcome y w d)
Gives-day y n w d year first last day e =
    let weeks = week_inside w (weeks_in_year y) first last in
    let inside = inside_range first_year last_year y year.0 year.1 in
    let here = rw e at (inside_range first_day last_day n day.0 day.1) in
    Gives-answer (iso_week_date_outcome y w d) _ (rw (iso_week_date-tested y w d false false false inside weeks here, e) refl)
    (IsOneAnswer-iso_week_date y w d)

pub Gives-day_past : (y n : ℤ) (w d : ℕ) → IsYear y → 1 ≤ w → w ≤ weeks_in_year y → w ≤ 53 → ¬ IsDay n → n ≡ day_of_iso_week_date y w d
    → Gives (Err (conditional_refusal (codes "year"))) (iso_week_date_outcome y w d)
Gives-day_past y n w d year first last most past e =
    let there : ¬ IsDay (day_of_iso_week_date y w d) = rw e at past in
    let inside = inside_range first_year last_year y year.0 year.1 in
    let weeks = week_inside w (weeks_in_year y) first last in
    let week = week_inside w 53 first most in
    let after : nat_lt (weeks_in_year y) w ≡ false = grind (arith, nat_tests) in
    let here : is_outside first_day last_day (day_of_iso_week_date y w d) ≡ true = grind (arith, ints) in
    Gives-answer (iso_week_date_outcome y w d) _ (rw (iso_week_date-tested y w d false false true inside weeks here, inside, week, after) refl)
    (IsOneAnswer-iso_week_date y w d)

pub IsOneAnswer-julian_date : (j : ℤ) → IsOneAnswer (julian_date_outcome j)
unfolding julian_date
IsOneAnswer-julian_date j =
    IsOneAnswer-tested (IsDay (j -ℤ epoch_julian_day)) (is_outside first_day last_day (j -ℤ epoch_julian_day)) (j -ℤ epoch_julian_day) _
    (λ f. grind (arith, ints)) (λ t. grind (arith, ints))

-- the outcome of a clock: the part of the second is at most its limit exactly if its nanoseconds are less than a second
pub IsOneAnswer-clock : (h m s : ℕ) (name : List ℕ) (limit part n : ℕ) → (s ≤ 59 → (part ≤ limit) ↔ (n ≤ 999_999_999))
    → IsOneAnswer (clock_outcome h m s name limit part n)
unfolding clock_with
IsOneAnswer-clock h m s name limit part n same =
    IsOneAnswer-tested (AreTimeParts h m s n) (nat_lt 23 h || (nat_lt 59 m || (nat_lt 59 s || nat_lt limit part))) (clock_of_parts h m s n)
    (clock_refusal h m s name) (λ f. let fit = (same f.second).1 f.nanosecond in grind (arith, nat_tests)) (λ t. clock t) where
      clock : (nat_lt 23 h || (nat_lt 59 m || (nat_lt 59 s || nat_lt limit part))) ≡ false → AreTimeParts h m s n
      clock t =
          let part_fits : part ≤ limit = grind (arith, nat_tests) in
          let second_fits : s ≤ 59 = grind (arith, nat_tests) in
          record {
            hour = grind (arith, nat_tests);
            minute = grind (arith, nat_tests);
            second = second_fits;
            nanosecond = (same second_fits).0 part_fits;
          }

pub IsOneAnswer-offset : (h m s : ℤ) → IsOneAnswer (offset_outcome h m s)
unfolding offset_of_parts
IsOneAnswer-offset h m s =
    IsOneAnswer-tested (AreOffsetParts h m s)
    (is_outside (neg_ℤ (pos 25)) (pos 25) h || (is_outside (neg_ℤ (pos 59)) (pos 59) m || is_outside (neg_ℤ (pos 59)) (pos 59) s))
    (seconds_of_signed_parts h m s) (offset_refusal h m) (λ f. grind (arith, ints)) (λ t. grind (arith, ints))

pub IsOneAnswer-offset_seconds : (o : ℤ) → IsOneAnswer (offset_seconds_outcome o)
unfolding offset_of_seconds
IsOneAnswer-offset_seconds o =
    IsOneAnswer-tested (IsOffset o) (is_outside least_offset greatest_offset o) o _ (λ f. grind (arith, ints)) (λ t. grind (arith, ints))

-- the same outcome in other words, for the condition that the arguments fit or for the error
reworded : {T : Type 0} (answer : Result T Refusal) (fits other : Type 0) (value : T) (refusal named : Refusal) → (fits → other) → (other → fits)
    → refusal ≡ named → Gives answer (record { fits = fits; value = value; refusal = refusal; answer = answer })
    → Gives answer (record { fits = other; value = value; refusal = named; answer = answer })
reworded (Ok x) fits other value refusal named there back e h = record { value = (there h.value.0, h.value.1); refused = tt; equation = refl }
reworded (Err r) fits other value refusal named there back e h =
    record { value = λ o. h.value (back o); refused = rw e at h.refused; equation = refl }

third : {A : Type 0} (first second : Bool) (x y z : A) → first ≡ false → second ≡ false → cond first x (cond second y z) ≡ z
third first second x y z e f = rw (e, f) refl

-- the year of a day of the range is not out of range
year_fits : (n : ℤ) → IsDay n → is_outside first_year last_year (year_of n) ≡ false
year_fits n day = let year = IsYear-year_of n day in grind (arith, ints)

-- a day of the range with another part
pub IsOneAnswer-month : (n : ℤ) (m : ℕ) → IsDay n → IsOneAnswer (month_outcome n m)
IsOneAnswer-month n m day =
    let date = IsCalendarDate-of n in
    let most = days_in_month_bounds (is_leap_year (year_of n)) (month_of n) in
    let d = day_of_month_of n in
    let there : ((d == 0) || nat_lt 31 d) ≡ false = grind (arith, nat_tests) in
    reworded (calendar_date (year_of n) m d) (IsDateOfRange (year_of n) m d) _ _ (date_refusal (year_of n) d) _ (λ f. f.1.1)
    (λ f. (IsYear-year_of n day, (date.day_first, f))) (third _ _ _ _ _ (year_fits n day) there) (IsOneAnswer-calendar_date (year_of n) m d)

pub IsOneAnswer-day : (n : ℤ) (d : ℕ) → IsDay n → IsOneAnswer (day_outcome n d)
IsOneAnswer-day n d day =
    reworded (calendar_date (year_of n) (month_of n) d) (IsDateOfRange (year_of n) (month_of n) d) _ _ _ _ (λ f. f.1)
    (λ f. (IsYear-year_of n day, f)) refl (IsOneAnswer-calendar_date (year_of n) (month_of n) d)

pub IsOneAnswer-ordinal : (n : ℤ) (o : ℕ) → IsDay n → IsOneAnswer (ordinal_outcome n o)
IsOneAnswer-ordinal n o day =
    reworded (ordinal_date (year_of n) o) (IsOrdinalDateOfRange (year_of n) o) _ _ _ _ (λ f. f.1)
    (λ f. (IsYear-year_of n day, f)) refl (IsOneAnswer-ordinal_date (year_of n) o)
