-- What a clear description writes is read back, component by component.
use Rattle.std.proofs.Common.{◌≡◌, ℕ, ◌*◌, ◌/◌, ◌%◌, ◌<◌, Bool, true, false, List, [], ◌∷◌, ◌++◌, refl, append_assoc}
use Rattle.std.proofs.Common.{arith, ℤ, pos, ◌≤ℤ◌, unsigned_abs, Some, None, Ok}
use Rattle.std.proofs.Common.{inl, inr, nat_lt}
use Rattle.std.specs.Prelude.{IsTrue, int_lt, not, ◌||◌, ◌&&◌, ◌==◌}
use Rattle.std.specs.Char.{is_ascii_digit}
use Rattle.std.proofs.lemmas.Bool.{and_parts, or_cases, cases_Bool}
use Rattle.std.proofs.lemmas.Bool.Decides.{nat_tests}
use Rattle.calendar_values.specs.Calendar.{year_of, month_of, day_of_month_of, ordinal_of, is_leap_year, year_start}
use Rattle.calendar_values.specs.CalendarDateLemmas.{IsCalendarDate-of, days_in_month_bounds}
use Rattle.calendar_values.specs.Clock.{hour_of, minute_of, second_of, nanosecond_of}
use Rattle.calendar_values.specs.ClockLemmas.{AreTimeParts-of}
use Rattle.calendar_values.specs.DayLemmas.{IsOrdinalDate-of}
use Rattle.calendar_values.specs.SignedArith.{signed_arith, one_part}
use Rattle.calendar_values.specs.Digits.{last_digits}
use Rattle.calendar_values.specs.IsoWeekDateLemmas.{iso_week_of-last, weeks_in_year-most}
use Rattle.calendar_values.specs.WeekLemmas.{weekday_of-bound, count_weekday-closed}
use Rattle.calendar_values.specs.Weeks.{weekday_of, iso_year_of, count_weekday_of_year}
use Rattle.calendar_values.specs.YearLemmas.{days_in_year_bounds}
use Rattle.rfc3339.specs.FormLemmas.{mark_again}
use Rattle.rfc3339.specs.Reading.{digit_at}
use Rattle.format_descriptions.specs.Modifiers.{is_padded, is_mandatory, is_extended, digit_count}
use Rattle.format_descriptions.specs.Groups.{written_items}
use Rattle.format_descriptions.specs.Read.{items_at, item_at, component_at, with_part}
use Rattle.format_descriptions.specs.Reading.{fraction_at, sign_at, six_at, signed_year_at, signed_century_at, signed_hours_at}
use Rattle.format_descriptions.specs.RoundTrips.{takes_digits, is_whole, begins_apart, starts_apart, are_clear, is_clear, number_of, flat_parts}
use Rattle.format_descriptions.specs.RoundTrips.{parts_of, AreParts, AreWritten}
use Rattle.format_descriptions.specs.Written.{items_text, flat_text, item_text, component_text, year_by, year_sign, year_text, four_text}
use Rattle.format_descriptions.specs.Written.{century_text, century_digits, six_text}
use Rattle.format_descriptions.specs.Written.{week_by, subsecond_text, offset_hour_text, hour_12, unix_count, unix_text}
use Rattle.format_descriptions.proofs.DecimalLemmas.{unix-again}
use Rattle.format_descriptions.proofs.GroupLemmas.{flat_at, items_at-written}
use Rattle.format_descriptions.proofs.NameAgainLemmas.{month-again, weekday-again, period-again, no_digit-month, no_digit-weekday, no_digit-period}
use Rattle.format_descriptions.proofs.NumberAgainLemmas.{two-again, three-again, four-again, more-again, nine-again, all-again, six_digits-again}
use Rattle.format_descriptions.proofs.NumberAgainLemmas.{weekday_number-again, no_sign-two, no_sign-four_text}
use Rattle.format_descriptions.proofs.PartLemmas.{agrees-same, AreParts-next}
use Rattle.format_descriptions.specs.declared.component.Component.{Component}
use Rattle.format_descriptions.specs.declared.component.Component.TheVariants.{Year, YearCentury, YearLastTwo, Month, MonthName, Day, Ordinal}
use Rattle.format_descriptions.specs.declared.component.Component.TheVariants.{WeekdayName, WeekdayNumber, WeekNumber, Hour, Hour12, Period, Minute}
use Rattle.format_descriptions.specs.declared.component.Component.TheVariants.{Second, Subsecond}
use Rattle.format_descriptions.specs.declared.component.Component.TheVariants.{OffsetHour, OffsetMinute, OffsetSecond, UnixTimestamp, Ignore, End}
use Rattle.format_descriptions.specs.declared.component.Component.TheVariants.{IgnoreWeekday, IgnoreDigits, OffsetWord, YearSince, YearSix}
use Rattle.format_descriptions.specs.declared.component.Component.TheVariants.{HourFraction, MinuteFraction}
use Rattle.format_descriptions.specs.declared.item.Item.{Item}
use Rattle.format_descriptions.specs.declared.item.Item.TheVariants.{Byte, Part, Optional, First, Or}
use Rattle.format_descriptions.specs.declared.modifiers.Padding.{Padding}
use Rattle.format_descriptions.specs.declared.modifiers.Sign.{Sign}
use Rattle.format_descriptions.specs.declared.modifiers.Sign.TheVariants.{Automatic, Mandatory}
use Rattle.format_descriptions.specs.declared.modifiers.SubsecondDigits.{SubsecondDigits}
use Rattle.format_descriptions.specs.declared.modifiers.WeekRule.{WeekRule}
use Rattle.format_descriptions.specs.declared.modifiers.WeekRule.TheVariants.{Iso, Sunday, Monday}
use Rattle.format_descriptions.specs.declared.modifiers.YearBase.TheVariants.{Calendar, IsoWeek}
use Rattle.format_descriptions.specs.declared.modifiers.YearRange.{YearRange}
use Rattle.format_descriptions.specs.declared.parts.Parts.{Parts}

-- the sign of a year of four digits
sign-automatic : (y : ℤ) → pos 0 ≤ℤ y → y ≤ℤ pos 9_999 → year_sign Automatic y ≡ []
sign-automatic y low high =
    let first : int_lt y (pos 0) ≡ false = grind (arith, signed_arith) in
    let last : int_lt (pos 9_999) y ≡ false = grind (arith, signed_arith) in rw (first, last) refl

sign-mandatory : (y : ℤ) → pos 0 ≤ℤ y → year_sign Mandatory y ≡ 43 ∷ []
sign-mandatory y low = let first : int_lt y (pos 0) ≡ false = grind (arith, signed_arith) in rw first refl

-- either reason for which no digit may follow
or_left : (a b : Bool) (P : Type 0) → (IsTrue (a || b) → P) → IsTrue a → P
or_left true b P f h = f refl
or_left false b P f h = absurd cc

or_right : (a b : Bool) (P : Type 0) → (IsTrue (a || b) → P) → IsTrue b → P
or_right true b P f h = f refl
or_right false b P f h = f h

year-again : (sign : Sign) (padding : Padding) (range : YearRange) (y : ℤ) (rest : List ℕ) → pos 0 ≤ℤ y → y ≤ℤ pos 9_999
    → (IsTrue (not (is_padded padding) || (is_mandatory sign && is_extended range)) → digit_at rest ≡ None)
    → signed_year_at sign padding range (year_text sign padding y ++ rest) ≡ Some ((int_lt y (pos 0), unsigned_abs y), rest)
unfolding signed_year_at sign_at year_text
year-again Automatic padding range y rest low high apart =
    let first : int_lt y (pos 0) ≡ false = grind (arith, signed_arith) in
    let n = unsigned_abs y in
    let below : n < 10_000 = omega (arith, signed_arith, low, high) in
    let digits = four-again padding n rest below (or_left (not (is_padded padding)) false _ apart) in
    rw (sign-automatic y low high, no_sign-four_text padding n rest below, first, digits) refl
year-again Mandatory padding range y rest low high apart =
    let first : int_lt y (pos 0) ≡ false = grind (arith, signed_arith) in
    let n = unsigned_abs y in
    let below : n < 10_000 = omega (arith, signed_arith, low, high) in
    rw (
      sign-mandatory y low,
      first,
      four-again padding n rest below (or_left (not (is_padded padding)) (is_extended range) _ apart),
      more-again range n rest (or_right (not (is_padded padding)) (is_extended range) _ apart),
    ) refl

century-again : (sign : Sign) (padding : Padding) (range : YearRange) (y : ℤ) (rest : List ℕ) → pos 0 ≤ℤ y → y ≤ℤ pos 9_999
    → (IsTrue (not (is_padded padding) || (is_mandatory sign && is_extended range)) → digit_at rest ≡ None)
    → signed_century_at sign padding range (century_text sign padding y ++ rest) ≡ Some ((int_lt y (pos 0), unsigned_abs y / 100), rest)
unfolding signed_century_at sign_at century_text century_digits
century-again Automatic padding range y rest low high apart =
    let first : int_lt y (pos 0) ≡ false = grind (arith, signed_arith) in
    let n = unsigned_abs y / 100 in
    let below : n < 100 = omega (arith, signed_arith, low, high) in
    let short : nat_lt n 100 ≡ true = grind (arith, nat_tests, below) in
    let digits = two-again padding n rest below (or_left (not (is_padded padding)) false _ apart) in
    rw (sign-automatic y low high, short, no_sign-two padding n rest below, first, digits)
    refl
century-again Mandatory padding range y rest low high apart =
    let first : int_lt y (pos 0) ≡ false = grind (arith, signed_arith) in
    let n = unsigned_abs y / 100 in
    let below : n < 100 = omega (arith, signed_arith, low, high) in
    let short : nat_lt n 100 ≡ true = grind (arith, nat_tests, below) in
    rw (
      sign-mandatory y low,
      short,
      first,
      two-again padding n rest below (or_left (not (is_padded padding)) (is_extended range) _ apart),
      more-again range n rest (or_right (not (is_padded padding)) (is_extended range) _ apart),
    ) refl

-- the days of a week in a year up to a day
week_of-bound : (first : ℕ) (day : ℤ) → first < 7 → count_weekday_of_year first day < 100
week_of-bound first day low =
    let place = IsOrdinalDate-of day in
    let most = days_in_year_bounds (year_of day) in
    omega (arith, place.last, most, count_weekday-closed first (year_start (year_of day)) (ordinal_of day) low)

-- a week of a year has two digits
week-bound : (rule : WeekRule) (day : ℤ) → week_by rule day < 100
week-bound Iso day = omega (arith, iso_week_of-last day, weeks_in_year-most (iso_year_of day))
week-bound Sunday day = week_of-bound 6 day (omega arith)
week-bound Monday day = week_of-bound 0 day (omega arith)

-- the hours of an offset with their sign
hours-again : (sign : Sign) (padding : Padding) (o : ℤ) (rest : List ℕ) → unsigned_abs o < 100 * 3_600
    → (IsTrue (not (is_padded padding)) → digit_at rest ≡ None)
    → signed_hours_at sign padding (offset_hour_text sign padding o ++ rest) ≡ Some ((int_lt o (pos 0), unsigned_abs o / 3_600), rest)
unfolding signed_hours_at sign_at offset_hour_text
hours-again Automatic padding o rest low apart =
    let below : unsigned_abs o / 3_600 < 100 = omega (arith, low) in
    let hours = two-again padding (unsigned_abs o / 3_600) rest below apart in
    elim (cases_Bool (int_lt o (pos 0))) [
      | inl west ↦ rw (west, hours) refl
      | inr east ↦ rw (east, no_sign-two padding (unsigned_abs o / 3_600) rest below, hours) refl
    ]
hours-again Mandatory padding o rest low apart =
    let hours = two-again padding (unsigned_abs o / 3_600) rest (omega (arith, low)) apart in
    elim (cases_Bool (int_lt o (pos 0))) [
      | inl west ↦ rw (west, hours) refl
      | inr east ↦ rw (east, hours) refl
    ]

-- a sign and six digits
six-again : (y : ℤ) (rest : List ℕ) → pos 0 ≤ℤ y → y ≤ℤ pos 9_999
    → six_at (six_text y ++ rest) ≡ Some ((int_lt y (pos 0), unsigned_abs y), rest)
unfolding six_at six_text sign_at
six-again y rest low high =
    let first : int_lt y (pos 0) ≡ false = grind (arith, signed_arith) in
    let below : unsigned_abs y < 1_000_000 = omega (arith, signed_arith, low, high) in
    rw (first, six_digits-again (unsigned_abs y) rest below) refl

-- a fraction that is not cut
fraction-again : (digits : SubsecondDigits) (n : ℕ) (rest : List ℕ) → n < 1_000_000_000
    → IsTrue ((digit_count digits == 0) || (digit_count digits == 9)) → (IsTrue (digit_count digits == 0) → digit_at rest ≡ None)
    → fraction_at (digit_count digits) (subsecond_text digits n ++ rest) ≡ Some (n, rest)
unfolding fraction_at subsecond_text last_digits
fraction-again digits n rest low whole apart = elim (or_cases (digit_count digits == 0) (digit_count digits == 9) whole) [
  | inl all ↦ rw all (all-again n rest low (apart all))
  | inr nine ↦
      let count : digit_count digits ≡ 9 = grind (arith, nat_tests, nine) in rw count (nine-again n rest low)
]

-- an hour on a clock of 12 hours has two digits
hour_12-bound : (hour : ℕ) → hour_12 hour < 100
unfolding hour_12
hour_12-bound hour = grind (arith, nat_tests)

-- a component, and no digit behind one that takes all digits
pub component-again : (c : Component) (day : ℤ) (clock : ℕ) (o : ℤ) (rest : List ℕ) → IsTrue (is_whole c)
    → (IsTrue (takes_digits c) → digit_at rest ≡ None) → AreWritten day clock o
    → component_at c (component_text c day clock o ++ rest) ≡ Some (number_of c day clock o, rest)
unfolding component_at component_text
component-again (Year Calendar sign padding range) day clock o rest whole apart w =
    year-again sign padding range (year_of day) rest w.year_first w.year_last apart
component-again (Year IsoWeek sign padding range) day clock o rest whole apart w = absurd cc
component-again (YearCentury Calendar sign padding range) day clock o rest whole apart w =
    century-again sign padding range (year_of day) rest w.year_first w.year_last apart
component-again (YearCentury IsoWeek sign padding range) day clock o rest whole apart w = absurd cc
component-again (YearLastTwo base padding) day clock o rest whole apart w =
    rw (two-again padding (unsigned_abs (year_by base day) % 100) rest (omega arith) apart) refl
component-again (Month padding) day clock o rest whole apart w =
    let date = IsCalendarDate-of day in rw (two-again padding (month_of day) rest (omega (arith, date.month_last)) apart) refl
component-again (MonthName form case) day clock o rest whole apart w =
    let date = IsCalendarDate-of day in rw (month-again form case (month_of day) rest date.month_first date.month_last) refl
component-again (Day padding) day clock o rest whole apart w =
    let date = IsCalendarDate-of day in
    let bounds = days_in_month_bounds (is_leap_year (year_of day)) (month_of day) in
    rw (two-again padding (day_of_month_of day) rest (omega (arith, date.day_last, bounds)) apart) refl
component-again (Ordinal padding) day clock o rest whole apart w =
    let date = IsOrdinalDate-of day in
    let bounds = days_in_year_bounds (year_of day) in
    rw (three-again padding (ordinal_of day) rest (omega (arith, date.last, bounds)) apart) refl
component-again (WeekdayName form case) day clock o rest whole apart w =
    rw (weekday-again form case (weekday_of day) rest (weekday_of-bound day)) refl
component-again (WeekdayNumber start count) day clock o rest whole apart w =
    rw (weekday_number-again start count (weekday_of day) rest (weekday_of-bound day)) refl
component-again (WeekNumber rule padding) day clock o rest whole apart w =
    rw (two-again padding (week_by rule day) rest (week-bound rule day) apart) refl
component-again (Hour padding) day clock o rest whole apart w =
    let time = AreTimeParts-of clock w.is_clock in rw (two-again padding (hour_of clock) rest (omega (arith, time.hour)) apart) refl
component-again (Minute padding) day clock o rest whole apart w =
    let time = AreTimeParts-of clock w.is_clock in rw (two-again padding (minute_of clock) rest (omega (arith, time.minute)) apart) refl
component-again (Second padding) day clock o rest whole apart w =
    let time = AreTimeParts-of clock w.is_clock in rw (two-again padding (second_of clock) rest (omega (arith, time.second)) apart) refl
component-again (Hour12 padding) day clock o rest whole apart w =
    rw (two-again padding (hour_12 (hour_of clock)) rest (hour_12-bound (hour_of clock)) apart) refl
component-again (Period case read) day clock o rest whole apart w =
    period-again case read (hour_of clock) rest
component-again (Subsecond digits) day clock o rest whole apart w =
    let time = AreTimeParts-of clock w.is_clock in
    rw (fraction-again digits (nanosecond_of clock) rest (omega (arith, time.nanosecond)) whole apart) refl
component-again (OffsetHour sign padding) day clock o rest whole apart w =
    hours-again sign padding o rest (omega (arith, signed_arith, one_part o, w.is_offset.0, w.is_offset.1)) apart
component-again (OffsetMinute padding) day clock o rest whole apart w =
    rw (two-again padding (unsigned_abs o / 60 % 60) rest (omega arith) apart) refl
component-again (OffsetSecond padding) day clock o rest whole apart w =
    rw (two-again padding (unsigned_abs o % 60) rest (omega arith) apart) refl
component-again (UnixTimestamp precision sign) day clock o rest whole apart w =
    unix-again precision sign day clock o rest w.year_first w.year_last w.is_clock w.is_offset (apart refl)
component-again (Ignore count) day clock o rest whole apart w = absurd cc
component-again End day clock o rest whole apart w = absurd cc
component-again (IgnoreWeekday form case) day clock o rest whole apart w =
    rw (weekday-again form case (weekday_of day) rest (weekday_of-bound day)) refl
component-again IgnoreDigits day clock o rest whole apart w = absurd cc
component-again (OffsetWord word case) day clock o rest whole apart w = absurd cc
component-again (YearSince first) day clock o rest whole apart w = absurd cc
component-again (YearSix Calendar) day clock o rest whole apart w = six-again (year_of day) rest w.year_first w.year_last
component-again (YearSix IsoWeek) day clock o rest whole apart w = absurd cc
component-again (HourFraction digits) day clock o rest whole apart w = absurd cc
component-again (MinuteFraction digits) day clock o rest whole apart w = absurd cc

-- a sign is no digit
no_digit-sign : (sign : Sign) (y : ℤ) (rest : List ℕ) → IsTrue (is_mandatory sign) → digit_at (year_sign sign y ++ rest) ≡ None
unfolding digit_at
no_digit-sign Automatic y rest h = absurd cc
no_digit-sign Mandatory y rest h = elim (cases_Bool (int_lt y (pos 0))) [
  | inl t ↦ rw t refl
  | inr f ↦ rw f refl
]

no_digit-year : (sign : Sign) (padding : Padding) (y : ℤ) (rest : List ℕ) → IsTrue (is_mandatory sign) → digit_at (year_text sign padding y ++ rest) ≡ None
unfolding year_text
no_digit-year sign padding y rest h =
    rw (append_assoc (year_sign sign y) (four_text padding (unsigned_abs y)) rest) (no_digit-sign sign y (four_text padding (unsigned_abs y) ++ rest) h)

no_digit-six : (y : ℤ) (rest : List ℕ) → digit_at (six_text y ++ rest) ≡ None
unfolding six_text
no_digit-six y rest =
    let digits = last_digits 6 (unsigned_abs y) in
    rw (append_assoc (year_sign Mandatory y) digits rest) (no_digit-sign Mandatory y (digits ++ rest) refl)

no_digit-century : (sign : Sign) (padding : Padding) (y : ℤ) (rest : List ℕ) → IsTrue (is_mandatory sign)
    → digit_at (century_text sign padding y ++ rest) ≡ None
unfolding century_text
no_digit-century sign padding y rest h =
    let digits = century_digits padding (unsigned_abs y / 100) in
    rw (append_assoc (year_sign sign y) digits rest) (no_digit-sign sign y (digits ++ rest) h)

no_digit-unix : (sign : Sign) (n : ℤ) (rest : List ℕ) → IsTrue (is_mandatory sign) → digit_at (unix_text sign n ++ rest) ≡ None
unfolding digit_at unix_text
no_digit-unix Automatic n rest h = absurd cc
no_digit-unix Mandatory n rest h = elim (cases_Bool (int_lt n (pos 0))) [
  | inl t ↦ rw t refl
  | inr f ↦ rw f refl
]

no_digit-offset : (sign : Sign) (padding : Padding) (o : ℤ) (rest : List ℕ) → IsTrue (is_mandatory sign)
    → digit_at (offset_hour_text sign padding o ++ rest) ≡ None
unfolding digit_at offset_hour_text
no_digit-offset Automatic padding o rest h = absurd cc
no_digit-offset Mandatory padding o rest h = elim (cases_Bool (int_lt o (pos 0))) [
  | inl t ↦ rw t refl
  | inr f ↦ rw f refl
]

-- a component that begins with no digit
component-apart : (c : Component) (day : ℤ) (clock : ℕ) (o : ℤ) (rest : List ℕ) → IsTrue (begins_apart c)
    → digit_at (component_text c day clock o ++ rest) ≡ None
unfolding component_text
component-apart (Year base sign padding range) day clock o rest h = no_digit-year sign padding (year_by base day) rest h
component-apart (YearCentury base sign padding range) day clock o rest h = no_digit-century sign padding (year_by base day) rest h
component-apart (YearLastTwo base padding) day clock o rest h = absurd cc
component-apart (Month padding) day clock o rest h = absurd cc
component-apart (MonthName form case) day clock o rest h = no_digit-month form (month_of day) rest
component-apart (Day padding) day clock o rest h = absurd cc
component-apart (Ordinal padding) day clock o rest h = absurd cc
component-apart (WeekdayName form case) day clock o rest h = no_digit-weekday form (weekday_of day) rest
component-apart (WeekdayNumber start count) day clock o rest h = absurd cc
component-apart (WeekNumber rule padding) day clock o rest h = absurd cc
component-apart (Hour padding) day clock o rest h = absurd cc
component-apart (Hour12 padding) day clock o rest h = absurd cc
component-apart (Period case read) day clock o rest h = no_digit-period case (hour_of clock) rest
component-apart (Minute padding) day clock o rest h = absurd cc
component-apart (Second padding) day clock o rest h = absurd cc
component-apart (Subsecond digits) day clock o rest h = absurd cc
component-apart (OffsetHour sign padding) day clock o rest h = no_digit-offset sign padding o rest h
component-apart (OffsetMinute padding) day clock o rest h = absurd cc
component-apart (OffsetSecond padding) day clock o rest h = absurd cc
component-apart (UnixTimestamp precision sign) day clock o rest h = no_digit-unix sign (unix_count precision day clock o) rest h
component-apart (Ignore count) day clock o rest h = absurd cc
component-apart End day clock o rest h = absurd cc
component-apart (IgnoreWeekday form case) day clock o rest h = no_digit-weekday form (weekday_of day) rest
component-apart IgnoreDigits day clock o rest h = absurd cc
component-apart (OffsetWord word case) day clock o rest h = absurd cc
component-apart (YearSince first) day clock o rest h = absurd cc
component-apart (YearSix base) day clock o rest h = no_digit-six (year_by base day) rest
component-apart (HourFraction digits) day clock o rest h = absurd cc
component-apart (MinuteFraction digits) day clock o rest h = absurd cc

byte-apart : (byte : ℕ) (rest : List ℕ) → IsTrue (not (is_ascii_digit byte)) → digit_at (byte ∷ rest) ≡ None
unfolding digit_at
byte-apart byte rest h = elim (cases_Bool (is_ascii_digit byte)) [
  | inl t ↦ let e = rw t at h in absurd cc
  | inr f ↦ rw f refl
]

or_not : (a b : Bool) → IsTrue (not a || b) → IsTrue a → IsTrue b
or_not true b h takes = h
or_not false b h takes = absurd cc

-- items that begin with no digit
items-apart : (items : List Item) (day : ℤ) (clock : ℕ) (o : ℤ) → IsTrue (starts_apart items) → digit_at (flat_text items day clock o) ≡ None
unfolding flat_text item_text digit_at
items-apart [] day clock o h = refl
items-apart (Byte byte ∷ items) day clock o h = byte-apart byte (flat_text items day clock o) h
items-apart (Optional size ∷ items) day clock o h = absurd cc
items-apart (First size ∷ items) day clock o h = absurd cc
items-apart (Or size ∷ items) day clock o h = absurd cc
items-apart (Part c ∷ items) day clock o h = component-apart c day clock o (flat_text items day clock o) h

-- the items, one after another
pub items-again : (items : List Item) (day : ℤ) (clock : ℕ) (o : ℤ) (p : Parts) → IsTrue (are_clear items) → AreWritten day clock o → AreParts p day clock o
    → flat_at items (flat_text items day clock o) p ≡ Ok (flat_parts items day clock o p, [])
unfolding flat_at flat_text item_text item_at
items-again [] day clock o p h w a = refl
items-again (Byte byte ∷ items) day clock o p h w a = rw (mark_again byte (flat_text items day clock o)) (items-again items day clock o p h w a)
items-again (Optional size ∷ items) day clock o p h w a = absurd cc
items-again (First size ∷ items) day clock o p h w a = absurd cc
items-again (Or size ∷ items) day clock o p h w a = absurd cc
items-again (Part c ∷ items) day clock o p h w a =
    let parts = and_parts (is_whole c) ((not (takes_digits c) || starts_apart items) && are_clear items) h in
    let others = and_parts (not (takes_digits c) || starts_apart items) (are_clear items) parts.1 in
    let apart : (IsTrue (takes_digits c) → digit_at (flat_text items day clock o) ≡ None) =
    λ takes. items-apart items day clock o (or_not (takes_digits c) (starts_apart items) others.0 takes)
    in
    rw (component-again c day clock o (flat_text items day clock o) parts.0 apart w, agrees-same c day clock o p a)
    (items-again items day clock o (with_part c (number_of c day clock o) p) others.1 w (AreParts-next c day clock o p a))

-- the parts of the items are those of the value
pub AreParts-of : (items : List Item) (day : ℤ) (clock : ℕ) (o : ℤ) (p : Parts) → AreParts p day clock o → AreParts (flat_parts items day clock o p) day clock o
AreParts-of [] day clock o p a = a
AreParts-of (Byte byte ∷ items) day clock o p a = AreParts-of items day clock o p a
AreParts-of (Optional size ∷ items) day clock o p a = AreParts-of items day clock o p a
AreParts-of (First size ∷ items) day clock o p a = AreParts-of items day clock o p a
AreParts-of (Or size ∷ items) day clock o p a = AreParts-of items day clock o p a
AreParts-of (Part c ∷ items) day clock o p a = AreParts-of items day clock o (with_part c (number_of c day clock o) p) (AreParts-next c day clock o p a)

-- what a clear description writes is read back
pub written-again : (items : List Item) (day : ℤ) (clock : ℕ) (o : ℤ) (p : Parts) → IsTrue (is_clear items) → AreWritten day clock o → AreParts p day clock o
    → items_at items (items_text items day clock o) p ≡ Ok (parts_of items day clock o p)
written-again items day clock o p h w a = items_at-written items _ p _ (items-again (written_items items) day clock o p h w a)
