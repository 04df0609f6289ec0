-- The texts of rules that are written derive them.
use Rattle.std.proofs.Common.{◌≡◌, inl, inr, refl, sym, subst, ℕ, zero, suc, ◌+◌, ◌/◌, ◌%◌, ◌≤◌, ◌<◌, ◌==◌, arith}
use Rattle.std.proofs.Common.{true, false, List, [], ◌∷◌, length, Option, Some, None}
use Rattle.std.proofs.Common.{ℤ, pos, negsuc, neg_ℤ, ◌+ℤ◌, unsigned_abs}
use Rattle.std.specs.Prelude.{IsTrue, nat_lt, nat_le, int_lt, int_le, ◌&&◌}
use Rattle.std.specs.Char.{is_ascii_digit, is_ascii_alphabetic}
use Rattle.std.specs.List.{list_all}
use Rattle.std.proofs.lemmas.Int.{ints}
use Rattle.std.proofs.lemmas.Bool.{cases_Bool, eqb-true, and_parts}
use Rattle.std.proofs.lemmas.Bool.Decides.{nat_tests}
use Rattle.calendar_values.specs.SignedArith.{signed_arith}
use Rattle.zone_files.specs.Grammar.{DerivesNumber, DerivesSeconds, DerivesMinutes, DerivesClock, is_minus, DerivesSigned}
use Rattle.zone_files.specs.Grammar.{DerivesName, DerivesDay, DerivesTime, DerivesMoment}
use Rattle.zone_files.specs.Grammar.{DerivesOffset, DerivesDaylightOffset, DerivesRest, Derives}
use Rattle.zone_files.specs.Numbers.{value_of, least_digits, most_digits, low, high}
use Rattle.zone_files.specs.Reading.{with_sign}
use Rattle.zone_files.specs.RuleTexts.{two_digits, short_digits, seconds_text, minutes_text, clock_text, sign_of, signed_text}
use Rattle.zone_files.specs.RuleTexts.{name_text, day_text, time_text, moment_text}
use Rattle.zone_files.specs.RuleTexts.{offset_text, daylight_offset_text, daylight_text, rest_text, rule_text, IsName, IsTextOffset, IsDaylightText, HasText}
use Rattle.zone_files.specs.Rules.{DayParts, MomentParts, DaylightParts, RuleParts}
use Rattle.zone_files.specs.Rules.DayParts.{OfWeek, OfCommon, OfCounted}
use Rattle.calendar_values.specs.Month.{month_number}
use Rattle.calendar_values.specs.declared.month.Month.{Month as MonthName}
use Rattle.calendar_values.specs.declared.month.Month.TheVariants as months
use Rattle.std.specs.Option.{option_map}
use Rattle.std.specs.Prelude.{IfOk, Result, Ok, Err}
use Rattle.zones.specs.Ranges.{IsRuleTime}
use Rattle.zones.specs.Rules.{is_rule_day}
use Rattle.zones.specs.declared.rule_day.RuleDay.{RuleDay}
use Rattle.zones.specs.declared.rule_day.RuleDay.TheVariants as days
use Rattle.zone_files.specs.Rules.{day_parts, daylight_parts, rule_parts}
use Rattle.zone_files.specs.declared.tz_rule.TzRule.{TzRule}
use Rattle.zone_files.specs.declared.tz_rule.Daylight.{Daylight}
use Rattle.zone_files.proofs.TextLemmas.{signed-some}
use Rattle.zone_files.specs.declared.numbers.Field.{Field}
use Rattle.zone_files.specs.declared.numbers.Field.TheVariants.{Month, Week, Weekday, Common, Counted, OffsetHours, TimeHours, Sixtieth}

-- ---- numbers

digit : (n : ℕ) → n < 10 → is_ascii_digit (48 + n) ≡ true
digit n lt = grind (arith, nat_tests)

le_true : (a b : ℕ) → a ≤ b → nat_le a b ≡ true
le_true a b le = grind (arith, nat_tests)

-- digits of a number that fit a field
of_field : (field : Field) (digits : List ℕ) (n : ℕ) → IsTrue (list_all is_ascii_digit digits) → least_digits field ≤ length digits
    → length digits ≤ most_digits field → n ≡ value_of digits → low field ≤ n → n ≤ high field → DerivesNumber field digits n
of_field field digits n all least most is above below = record {
  digits = all;
  fits =
      rw (le_true (least_digits field) (length digits) least) (rw (le_true (length digits) (most_digits field) most)
      (rw (le_true (low field) (value_of digits) (subst (λ (k : ℕ). low field ≤ k) is above))
      (rw (le_true (value_of digits) (high field) (subst (λ (k : ℕ). k ≤ high field) is below)) refl)));
  value = is;
}

two-all : (n : ℕ) → n < 100 → IsTrue (list_all is_ascii_digit (two_digits n))
two-all n lt = rw (digit (n / 10) (omega (arith, lt))) (rw (digit (n % 10) (omega arith)) refl)

two-value : (n : ℕ) → n ≡ value_of (two_digits n)
two-value n = omega arith

pub two-sixtieth : (n : ℕ) → n < 60 → DerivesNumber Sixtieth (two_digits n) n
two-sixtieth n lt =
    of_field Sixtieth (two_digits n) n (two-all n (omega (arith, lt))) (omega arith) (omega arith) (two-value n) (omega arith) (omega (arith, lt))

-- a field whose numbers have one digit at least, and as many as they need
record Short (field : Field) : Type 0 where
  least : least_digits field ≤ 1
  one : 1 ≤ most_digits field
  two : 10 ≤ high field → 2 ≤ most_digits field
  three : 100 ≤ high field → 3 ≤ most_digits field
  below : high field < 1_000

short-number : (field : Field) (n : ℕ) → Short field → low field ≤ n → n ≤ high field → DerivesNumber field (short_digits n) n
short-number field n h above below =
    elim (cases_Bool (nat_lt n 10)) [
      | inl t ↦
          let lt : n < 10 = lt_of n 10 t in
          rw t (of_field field ((48 + n) ∷ []) n (rw (digit n lt) refl) (omega (arith, h.least)) (omega (arith, h.one)) (omega arith) above below)
      | inr t ↦
          let some : 10 ≤ n = le_of n 10 t in
          elim (cases_Bool (nat_lt n 100)) [
            | inl u ↦
                let lt : n < 100 = lt_of n 100 u in
                rw t (rw u (of_field field (two_digits n) n (two-all n lt) (omega (arith, h.least))
                (h.two (omega (arith, some, below))) (two-value n) above below))
            | inr u ↦
                let many : 100 ≤ n = le_of n 100 u in
                let few : n < 1_000 = omega (arith, below, h.below) in
                rw t (rw u (of_field field ((48 + n / 100) ∷ two_digits (n % 100)) n
                (rw (digit (n / 100) (omega (arith, few))) (two-all (n % 100) (omega arith))) (omega (arith, h.least))
                (h.three (omega (arith, many, below))) (omega arith) above below))
          ]
    ] where
      lt_of : (a b : ℕ) → nat_lt a b ≡ true → a < b
      lt_of a b e = grind (arith, nat_tests)

      le_of : (a b : ℕ) → nat_lt a b ≡ false → b ≤ a
      le_of a b e = grind (arith, nat_tests)

short_month : Short Month
short_month = record { least = omega arith; one = omega arith; two = λ h. omega arith; three = λ h. absurd (omega (arith, h)); below = omega arith }

short_week : Short Week
short_week =
    record { least = omega arith; one = omega arith; two = λ h. absurd (omega (arith, h)); three = λ h. absurd (omega (arith, h)); below = omega arith }

short_weekday : Short Weekday
short_weekday =
    record { least = omega arith; one = omega arith; two = λ h. absurd (omega (arith, h)); three = λ h. absurd (omega (arith, h)); below = omega arith }

short_common : Short Common
short_common = record { least = omega arith; one = omega arith; two = λ h. omega arith; three = λ h. omega arith; below = omega arith }

short_counted : Short Counted
short_counted = record { least = omega arith; one = omega arith; two = λ h. omega arith; three = λ h. omega arith; below = omega arith }

short_offset : Short OffsetHours
short_offset = record { least = omega arith; one = omega arith; two = λ h. omega arith; three = λ h. omega arith; below = omega arith }

short_time : Short TimeHours
short_time = record { least = omega arith; one = omega arith; two = λ h. omega arith; three = λ h. omega arith; below = omega arith }

-- ---- clocks

seconds-derives : (n : ℕ) → n < 60 → DerivesSeconds (seconds_text n) n
seconds-derives n lt =
    elim (cases_Bool (n == 0)) [
      | inl t ↦ rw t (eqb-true n 0 t)
      | inr t ↦ rw t (refl, two-sixtieth n lt)
    ]

minutes-derives : (n : ℕ) → n < 3_600 → DerivesMinutes (minutes_text n) n
minutes-derives n lt =
    elim (cases_Bool (n == 0)) [
      | inl t ↦ rw t (eqb-true n 0 t)
      | inr t ↦
          rw t (
            refl,
            record {
              first = two_digits (n / 60);
              second = seconds_text (n % 60);
              minutes = n / 60;
              seconds = n % 60;
              spelled = refl;
              has_minutes = two-sixtieth (n / 60) (omega (arith, lt));
              has_seconds = seconds-derives (n % 60) (omega arith);
              value = omega arith;
            },
          )
    ]

clock-derives : (field : Field) (n : ℕ) → Short field → low field ≡ 0 → n / 3_600 ≤ high field → DerivesClock field (clock_text n) n
clock-derives field n short least most = record {
  first = short_digits (n / 3_600);
  second = minutes_text (n % 3_600);
  hours = n / 3_600;
  rest = n % 3_600;
  spelled = refl;
  has_hours = short-number field (n / 3_600) short (omega (arith, least)) most;
  has_rest = minutes-derives (n % 3_600) (omega arith);
  value = omega arith;
}

signed-value : (z : ℤ) → z ≡ with_sign (is_minus (sign_of z)) (unsigned_abs z)
signed-value (pos n) = rw (not_below n) refl where
  not_below : (n : ℕ) → int_lt (pos n) (pos 0) ≡ false
  not_below n = grind (arith, signed_arith)
signed-value (negsuc n) = refl

signed-derives : (field : Field) (z : ℤ) → Short field → low field ≡ 0 → unsigned_abs z / 3_600 ≤ high field → DerivesSigned field (signed_text z) z
signed-derives field z short least most = record {
  sign = sign_of z;
  clock = clock_text (unsigned_abs z);
  count = unsigned_abs z;
  spelled = refl;
  has_count = clock-derives field (unsigned_abs z) short least most;
  value = signed-value z;
}

-- ---- names

name-derives : (name : List ℕ) → IsName name → DerivesName (name_text name) name
unfolding name_text
name-derives name h =
    elim (cases_Bool (list_all is_ascii_alphabetic name)) [
      | inl t ↦ rw t (inl (record { spelled = refl; letters = t; long = h.long }))
      | inr t ↦ rw t (inr (record { spelled = refl; letters = h.letters; long = h.long }))
    ]

-- ---- days and moments

-- a day that a rule can name
abbrev pub IsDayOf : DayParts → Type 0
IsDayOf (OfWeek month week weekday) = (1 ≤ month) × (month ≤ 12) × (1 ≤ week) × (week ≤ 5) × (weekday ≤ 6)
IsDayOf (OfCommon n) = (1 ≤ n) × (n ≤ 365)
IsDayOf (OfCounted n) = n ≤ 365

day-derives : (day : DayParts) → IsDayOf day → DerivesDay (day_text day) day
unfolding day_text
day-derives (OfWeek month week weekday) h = record {
  first = short_digits month;
  second = short_digits week;
  third = short_digits weekday;
  spelled = refl;
  has_month = short-number Month month short_month h.0 h.1;
  has_week = short-number Week week short_week h.2 h.3;
  has_weekday = short-number Weekday weekday short_weekday (omega arith) h.4;
}
day-derives (OfCommon n) h = record { digits = short_digits n; spelled = refl; has_day = short-number Common n short_common h.0 h.1 }
day-derives (OfCounted n) h = short-number Counted n short_counted (omega arith) h

-- at most so many seconds, either way
abbrev pub IsWithin : ℕ → ℤ → Type 0
IsWithin most z = unsigned_abs z ≤ most

same_int : (a b : ℤ) → (int_le a b && int_le b a) ≡ true → b ≡ a
same_int a b e = grind (arith, signed_arith)

time-derives : (z : ℤ) → IsWithin 604_799 z → DerivesTime (time_text z) z
unfolding time_text
time-derives z h =
    elim (cases_Bool (int_le (pos 7_200) z && int_le z (pos 7_200))) [
      | inl t ↦ rw t (same_int (pos 7_200) z t)
      | inr t ↦ rw t (refl, signed-derives TimeHours z short_time refl (omega (arith, h)))
    ]

moment-derives : (moment : MomentParts) → IsDayOf moment.day → IsWithin 604_799 moment.time → DerivesMoment (moment_text moment) moment
unfolding moment_text
moment-derives moment day time = record {
  first = day_text moment.day;
  second = time_text moment.time;
  spelled = refl;
  has_day = day-derives moment.day day;
  has_time = time-derives moment.time time;
}

-- ---- rules

neg-neg : (z : ℤ) → z ≡ neg_ℤ (neg_ℤ z)
neg-neg z = omega (arith, ints)

offset-within : (o : ℤ) → IsTextOffset o → unsigned_abs (neg_ℤ o) ≤ 89_999
offset-within (pos zero) h = omega arith
offset-within (pos (suc n)) h = omega (arith, ints, h.1)
offset-within (negsuc n) h = omega (arith, ints, h.0)

offset-derives : (o : ℤ) → IsTextOffset o → DerivesOffset (offset_text o) o
unfolding offset_text
offset-derives o h = record {
  west = neg_ℤ o;
  has_west = signed-derives OffsetHours (neg_ℤ o) short_offset refl (omega (arith, offset-within o h));
  value = neg-neg o;
}

some-offset : (standard o : ℤ) (text : List ℕ) → DerivesOffset text o → DerivesDaylightOffset standard text o
some-offset standard o [] h = absurd (signed-some OffsetHours [] h.west h.has_west refl)
some-offset standard o (byte ∷ bytes) h = h

daylight_offset-derives : (standard o : ℤ) → IsTextOffset o → DerivesDaylightOffset standard (daylight_offset_text standard o) o
unfolding daylight_offset_text
daylight_offset-derives standard o h =
    elim (cases_Bool (int_le (standard +ℤ pos 3_600) o && int_le o (standard +ℤ pos 3_600))) [
      | inl t ↦ rw t (same_int (standard +ℤ pos 3_600) o t)
      | inr t ↦ rw t (some-offset standard o (offset_text o) (offset-derives o h))
    ]

-- the moments of daylight saving time are those of a rule
abbrev pub HasMoments : Option DaylightParts → Type 0
HasMoments None = Unit {0}
HasMoments (Some daylight) =
    IsDayOf daylight.from.day × IsWithin 604_799 daylight.from.time × IsDayOf daylight.until.day × IsWithin 604_799 daylight.until.time

rest-derives : (standard : ℤ) (daylight : Option DaylightParts) → IsDaylightText daylight → HasMoments daylight
    → DerivesRest standard (rest_text standard daylight) daylight
unfolding daylight_text
rest-derives standard None h m = refl
rest-derives standard (Some daylight) h m = record {
  first = name_text daylight.name;
  second = daylight_offset_text standard daylight.offset;
  third = moment_text daylight.from;
  fourth = moment_text daylight.until;
  spelled = refl;
  has_name = name-derives daylight.name h.0;
  has_offset = daylight_offset-derives standard daylight.offset h.1;
  has_from = moment-derives daylight.from m.0 m.1;
  has_until = moment-derives daylight.until m.2 m.3;
}

pub text-derives : (rule : RuleParts) → HasText rule → HasMoments rule.daylight → Derives (rule_text rule) rule
unfolding rule_text
text-derives rule h m = record {
  first = name_text rule.name;
  second = offset_text rule.offset;
  third = rest_text rule.offset rule.daylight;
  spelled = refl;
  has_name = name-derives rule.name h.name;
  has_offset = offset-derives rule.offset h.offset;
  has_rest = rest-derives rule.offset rule.daylight h.daylight m;
}

-- ---- the moments of a rule are in range

month_within : (month : MonthName) → (1 ≤ month_number month) × (month_number month ≤ 12)
month_within months.January = (omega arith, omega arith)
month_within months.February = (omega arith, omega arith)
month_within months.March = (omega arith, omega arith)
month_within months.April = (omega arith, omega arith)
month_within months.May = (omega arith, omega arith)
month_within months.June = (omega arith, omega arith)
month_within months.July = (omega arith, omega arith)
month_within months.August = (omega arith, omega arith)
month_within months.September = (omega arith, omega arith)
month_within months.October = (omega arith, omega arith)
month_within months.November = (omega arith, omega arith)
month_within months.December = (omega arith, omega arith)

le_of_test : (a b : ℕ) → nat_le a b ≡ true → a ≤ b
le_of_test a b e = grind (arith, nat_tests)

day_within : (day : RuleDay) → IsTrue (is_rule_day day) → IsDayOf (day_parts day)
day_within (days.Weekday month week weekday) h =
    let a = and_parts (nat_le 1 week) _ h in
    let b = and_parts (nat_le week 5) _ a.1 in
    let m = month_within month in
    (m.0, m.1, le_of_test 1 week a.0, le_of_test week 5 b.0, le_of_test weekday 6 b.1)
day_within (days.Common n) h = let a = and_parts (nat_le 1 n) _ h in (le_of_test 1 n a.0, le_of_test n 365 a.1)
day_within (days.Counted n) h = le_of_test n 365 h

time_within : (z : ℤ) → IsRuleTime z → IsWithin 604_799 z
time_within (pos n) h = omega (arith, ints, h.1)
time_within (negsuc n) h = omega (arith, ints, h.0)

has_moments : (daylight : Option Daylight) → HasMoments (option_map daylight_parts daylight)
has_moments None = tt
has_moments (Some d) = (
  day_within d.from.day d.from.day_in,
  time_within d.from.time d.from.time_in,
  day_within d.until.day d.until.day_in,
  time_within d.until.time d.until.time_in,
)

pub written-derives : (rule : TzRule) (text : List ℕ) → HasText (rule_parts rule) → text ≡ rule_text (rule_parts rule) → Derives text (rule_parts rule)
written-derives rule text h e =
    subst (λ (xs : List ℕ). Derives xs (rule_parts rule)) (sym e) (text-derives (rule_parts rule) h (has_moments rule.daylight))

pub written-back : {A E : Type 0} (rule : TzRule) (bytes : A → List ℕ) (r : Result A E) → HasText (rule_parts rule)
    → IfOk r (λ text. bytes text ≡ rule_text (rule_parts rule)) → IfOk r (λ text. Derives (bytes text) (rule_parts rule))
written-back rule bytes (Ok text) h e = written-derives rule (bytes text) h e
written-back rule bytes (Err e) h is = tt
