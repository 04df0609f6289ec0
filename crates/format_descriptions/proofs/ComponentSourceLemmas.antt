-- The text of a component, read as a description.
use Rattle.std.proofs.Common.{◌≡◌, ℕ, zero, suc, ◌+◌, ◌-◌, ◌*◌, ◌/◌, ◌%◌, ◌^◌, ◌<◌, ◌≤◌, ◌==◌, ◌||◌, nat_lt, Bool}
use Rattle.std.proofs.Common.{true, false, List, [], ◌∷◌, ◌++◌, codes, decimal}
use Rattle.std.proofs.Common.{refl, ◌∙◌, arith, append_assoc, inl, inr, pow-suc}
use Rattle.std.proofs.lemmas.Bool.{cases_Bool}
use Rattle.std.proofs.lemmas.Bool.Decides.{nat_tests}
use Rattle.std.proofs.lemmas.Fmt.{decimal_digit, decimal_step_wide}
use Rattle.std.specs.Prelude.{if◌then◌else◌, Option, Some, None, Result, Ok, Err}
use Rattle.format_descriptions.specs.DescriptionComponents.{component_of}
use Rattle.format_descriptions.specs.DescriptionGroups.{group_at}
use Rattle.format_descriptions.specs.DescriptionModifiers.{modifier_at, key_at, common_key_at, word_key_at, own_key_at, takes}
use Rattle.format_descriptions.specs.DescriptionModifiers.{repr_at, with_value, no_modifiers}
use Rattle.format_descriptions.specs.DescriptionNames.{name_at, date_name_at, time_name_at, other_name_at}
use Rattle.format_descriptions.specs.DescriptionSteps.{Fault, is_closed}
use Rattle.format_descriptions.specs.DescriptionTexts.{in_brackets, component_source}
use Rattle.format_descriptions.specs.DescriptionValues.{padding_at, sign_rule_at, case_at, read_case_at, first_number_at, base_at, range_at}
use Rattle.format_descriptions.specs.DescriptionValues.{subsecond_digits_at, few_digits_at, many_digits_at, precision_at, count_from}
use Rattle.format_descriptions.specs.DescriptionValues.{year_repr_at, month_repr_at, weekday_repr_at, week_repr_at, hour_repr_at}
use Rattle.format_descriptions.specs.DescriptionWords.{is_white_space, ends_word, is_word_at, name_rest}
use Rattle.format_descriptions.specs.declared.component.Component.{Component}
use Rattle.format_descriptions.specs.declared.component.Component.TheVariants.{Year, YearCentury, YearLastTwo, Month, MonthName, Day, Ordinal}
use Rattle.format_descriptions.specs.declared.component.Component.TheVariants.{WeekdayName, WeekdayNumber, WeekNumber, Hour, Hour12, Period, Minute}
use Rattle.format_descriptions.specs.declared.component.Component.TheVariants.{Second, Subsecond}
use Rattle.format_descriptions.specs.declared.component.Component.TheVariants.{OffsetHour, OffsetMinute, OffsetSecond, UnixTimestamp, Ignore, End}
use Rattle.format_descriptions.specs.declared.component.Component.TheVariants.{IgnoreWeekday, IgnoreDigits, OffsetWord, YearSince, YearSix}
use Rattle.format_descriptions.specs.declared.component.Component.TheVariants.{HourFraction, MinuteFraction}
use Rattle.format_descriptions.specs.declared.description_modifiers.Modifiers.{Modifiers}
use Rattle.format_descriptions.specs.declared.description_names.Name.{Name}
use Rattle.format_descriptions.specs.declared.description_names.Name.TheVariants as named
use Rattle.format_descriptions.specs.declared.item_refusal.ItemFault.{ItemFault}
use Rattle.format_descriptions.specs.declared.modifiers.Padding.TheVariants.{Zero, Space, Bare}
use Rattle.format_descriptions.specs.declared.modifiers.Sign.TheVariants.{Automatic, Mandatory}
use Rattle.format_descriptions.specs.declared.modifiers.YearBase.TheVariants.{Calendar, IsoWeek}
use Rattle.format_descriptions.specs.declared.modifiers.YearRange.TheVariants.{Standard, Extended}
use Rattle.format_descriptions.specs.declared.modifiers.Case.TheVariants.{Upper, Lower}
use Rattle.format_descriptions.specs.declared.modifiers.ReadCase.TheVariants.{Same, Any}
use Rattle.format_descriptions.specs.declared.modifiers.NameForm.TheVariants.{Long, Short}
use Rattle.format_descriptions.specs.declared.modifiers.WeekRule.TheVariants.{Iso, Sunday, Monday}
use Rattle.format_descriptions.specs.declared.modifiers.WeekStart.TheVariants.{Sunday as FromSunday, Monday as FromMonday}
use Rattle.format_descriptions.specs.declared.modifiers.WeekdayCount.TheVariants.{FromZero, FromOne}
use Rattle.format_descriptions.specs.declared.modifiers.SubsecondDigits.TheVariants.{OneOrMore, One, Two, Three, Four, Five, Six, Seven, Eight, Nine}
use Rattle.format_descriptions.specs.declared.modifiers.UnixPrecision.TheVariants.{Seconds, Milliseconds, Microseconds, Nanoseconds}

-- the component that ends with the last of these bytes
abbrev pub ended_by : List ℕ → Option Component → Option Component
ended_by [] component = component
ended_by (first ∷ bytes) component = None

abbrev pub after_modifier : (Modifiers → Option Component) → Result Modifiers Fault → Option Component
after_modifier next (Err fault) = None
after_modifier next (Ok m) = next m

-- the component of these bytes, which follow its name or the white space behind a word
unfoldable pub words_read : Bool → Name → Modifiers → List ℕ → List ℕ → Option Component
words_read is_between name m [] rest = None
words_read is_between name m (first ∷ bytes) rest =
    if first == 93 then ended_by bytes (component_of name m)
    else (if first == 91 then None
    else (if is_white_space first then words_read true name m bytes rest
    else (if is_between then after_modifier (λ more. words_read false name more bytes rest) (modifier_at name (first ∷ (bytes ++ rest)) m)
    else words_read false name m bytes rest)))

abbrev pub after_name : (Name → Option Component) → Option Name → Option Component
after_name next None = None
after_name next (Some name) = next name

abbrev pub unless_group : Option Component → Option Bool → Option Component
unless_group read None = read
unless_group read (Some is_first) = None

-- the component of these bytes, which follow a `[`
unfoldable pub component_read : List ℕ → List ℕ → Option Component
component_read [] rest = None
component_read (first ∷ bytes) rest =
    if is_white_space first || (first == 91 || first == 93) then None
    else (if is_closed (first ∷ (bytes ++ rest))
    then unless_group (after_name (λ name. words_read false name no_modifiers bytes rest) (name_at (first ∷ (bytes ++ rest))))
    (group_at (first ∷ (bytes ++ rest)))
    else None)

-- the bytes of a text behind the `[`
abbrev pub inner_bytes : List ℕ → List ℕ
inner_bytes [] = []
inner_bytes (first ∷ bytes) = bytes

-- a digit is no end of a word
digit_on : (name : Name) (m : Modifiers) (rest : List ℕ) (d : ℕ) (text : List ℕ) → d ≤ 9
    → words_read false name m ((48 + d) ∷ text) rest ≡ words_read false name m text rest
unfolding words_read
digit_on name m rest d text low = grind (arith, nat_tests)

digit_open : (rest : List ℕ) (d : ℕ) (text : List ℕ) → d ≤ 9 → is_closed (((48 + d) ∷ text) ++ rest) ≡ is_closed (text ++ rest)
unfolding is_closed
digit_open rest d text low = grind (arith, nat_tests)

-- a digit is one more of a count
digit_counted : (n d more : ℕ) (text : List ℕ) → d ≤ 9 → more ≡ n * 10 + d → more ≤ 65_535 → count_from n ((48 + d) ∷ text) ≡ count_from more text
unfolding count_from
digit_counted n d more text low is below =
    let same : n * 10 + ((48 + d) - 48) ≡ more = omega arith in rw same (grind (arith, nat_tests))

-- what passes over each digit passes over a decimal
past_decimal : {X : Type 0} (f : List ℕ → X) → ((d : ℕ) (text : List ℕ) → d ≤ 9 → f ((48 + d) ∷ text) ≡ f text)
    → (k n : ℕ) (text : List ℕ) → n < 10 ^ suc k → n < 10 ^ 64 → f (decimal n ++ text) ≡ f text
past_decimal f past zero n text low fits = rw (decimal_digit n (omega (arith, low))) (past n text (omega (arith, low)))
past_decimal f past (suc k) n text low fits = elim (cases_Bool (nat_lt n 10)) [
  | inl t ↦
      let one : n < 10 = grind (arith, nat_tests, t) in rw (decimal_digit n one) (past n text (omega (arith, one)))
  | inr other ↦
      let high : 10 ≤ n = grind (arith, nat_tests, other) in
      let power : 10 ^ suc (suc k) ≡ 10 ^ suc k * 10 = pow-suc 10 (suc k) in
      let less : n / 10 < 10 ^ suc k = omega (arith, power, low) in
      rw (decimal_step_wide n high fits, append_assoc (decimal (n / 10)) ((48 + n % 10) ∷ []) text)
      (past_decimal f past k (n / 10) ((48 + n % 10) ∷ text) less (omega (arith, fits)) ∙ past (n % 10) text (omega arith))
]

-- a decimal is counted to its last digit
decimal_counted : (k n : ℕ) (text : List ℕ) → n < 10 ^ suc k → n ≤ 65_535 → count_from 0 (decimal n ++ text) ≡ count_from n text
decimal_counted zero n text low below =
    rw (decimal_digit n (omega (arith, low))) (digit_counted 0 n n text (omega (arith, low)) (omega arith) below)
decimal_counted (suc k) n text low below = elim (cases_Bool (nat_lt n 10)) [
  | inl t ↦
      let one : n < 10 = grind (arith, nat_tests, t) in rw (decimal_digit n one) (digit_counted 0 n n text (omega (arith, one)) (omega arith) below)
  | inr other ↦
      let high : 10 ≤ n = grind (arith, nat_tests, other) in
      let power : 10 ^ suc (suc k) ≡ 10 ^ suc k * 10 = pow-suc 10 (suc k) in
      let less : n / 10 < 10 ^ suc k = omega (arith, power, low) in
      rw (decimal_step_wide n high (omega (arith, below)), append_assoc (decimal (n / 10)) ((48 + n % 10) ∷ []) text)
      (decimal_counted k (n / 10) ((48 + n % 10) ∷ text) less (omega (arith, below))
      ∙ digit_counted (n / 10) (n % 10) n text (omega arith) (omega arith) below)
]

-- a count is read back
count_again : (n : ℕ) (rest : List ℕ) → (n == 0) ≡ false → n ≤ 65_535 → count_from 0 ((decimal n ++ 93 ∷ []) ++ rest) ≡ Some n
unfolding count_from ends_word
count_again n rest some below =
    rw (append_assoc (decimal n) (93 ∷ []) rest, decimal_counted 4 n (93 ∷ rest) (omega (arith, below)) below, some) refl

ignore_again : (n : ℕ) (rest : List ℕ) → (n == 0) ≡ false → n ≤ 65_535
    → component_read (inner_bytes (in_brackets (codes "[ignore count:") (decimal n) [] [] [])) rest ≡ Some (Ignore n)
unfolding component_read words_read is_closed name_at date_name_at time_name_at other_name_at group_at is_word_at ends_word name_rest modifier_at
    key_at common_key_at word_key_at own_key_at takes repr_at with_value padding_at sign_rule_at case_at read_case_at first_number_at base_at range_at
    subsecond_digits_at few_digits_at many_digits_at precision_at year_repr_at month_repr_at weekday_repr_at week_repr_at hour_repr_at component_of
ignore_again n rest some below =
    let closed : is_closed ((decimal n ++ 93 ∷ []) ++ rest) ≡ true =
    past_decimal (λ text. is_closed (text ++ rest)) (λ d text low. digit_open rest d text low) 4 n (93 ∷ []) (omega (arith, below)) (omega (arith, below))
    in
    let past = past_decimal (λ text. words_read false named.Ignore (record no_modifiers { count = Some n }) text rest)
    (λ d text low. digit_on named.Ignore (record no_modifiers { count = Some n }) rest d text low) 4 n (93 ∷ []) (omega (arith, below)) (omega (arith, below))
    in
    rw (closed, count_again n rest some below) past

-- the text of a component without a fault is read back
abbrev pub IsAgain : Component → List ℕ → Result (List ℕ) ItemFault → Type 0
IsAgain c rest (Err fault) = Unit {0}
IsAgain c rest (Ok text) = (text ≡ 91 ∷ inner_bytes text) × (component_read (inner_bytes text) rest ≡ Some c)

pub component_again : (c : Component) (rest : List ℕ) → IsAgain c rest (component_source c)
unfolding component_source component_read words_read is_closed name_at date_name_at time_name_at other_name_at group_at is_word_at ends_word name_rest
    modifier_at key_at common_key_at word_key_at own_key_at takes repr_at with_value padding_at sign_rule_at case_at read_case_at first_number_at
    base_at range_at subsecond_digits_at few_digits_at many_digits_at precision_at year_repr_at month_repr_at weekday_repr_at week_repr_at
    hour_repr_at component_of
component_again (Year Calendar Automatic Zero Standard) rest = (refl, refl)
component_again (Year Calendar Automatic Zero Extended) rest = (refl, refl)
component_again (Year Calendar Automatic Space Standard) rest = (refl, refl)
component_again (Year Calendar Automatic Space Extended) rest = (refl, refl)
component_again (Year Calendar Automatic Bare Standard) rest = (refl, refl)
component_again (Year Calendar Automatic Bare Extended) rest = (refl, refl)
component_again (Year Calendar Mandatory Zero Standard) rest = (refl, refl)
component_again (Year Calendar Mandatory Zero Extended) rest = (refl, refl)
component_again (Year Calendar Mandatory Space Standard) rest = (refl, refl)
component_again (Year Calendar Mandatory Space Extended) rest = (refl, refl)
component_again (Year Calendar Mandatory Bare Standard) rest = (refl, refl)
component_again (Year Calendar Mandatory Bare Extended) rest = (refl, refl)
component_again (Year IsoWeek Automatic Zero Standard) rest = (refl, refl)
component_again (Year IsoWeek Automatic Zero Extended) rest = (refl, refl)
component_again (Year IsoWeek Automatic Space Standard) rest = (refl, refl)
component_again (Year IsoWeek Automatic Space Extended) rest = (refl, refl)
component_again (Year IsoWeek Automatic Bare Standard) rest = (refl, refl)
component_again (Year IsoWeek Automatic Bare Extended) rest = (refl, refl)
component_again (Year IsoWeek Mandatory Zero Standard) rest = (refl, refl)
component_again (Year IsoWeek Mandatory Zero Extended) rest = (refl, refl)
component_again (Year IsoWeek Mandatory Space Standard) rest = (refl, refl)
component_again (Year IsoWeek Mandatory Space Extended) rest = (refl, refl)
component_again (Year IsoWeek Mandatory Bare Standard) rest = (refl, refl)
component_again (Year IsoWeek Mandatory Bare Extended) rest = (refl, refl)
component_again (YearCentury Calendar Automatic Zero Standard) rest = (refl, refl)
component_again (YearCentury Calendar Automatic Zero Extended) rest = (refl, refl)
component_again (YearCentury Calendar Automatic Space Standard) rest = (refl, refl)
component_again (YearCentury Calendar Automatic Space Extended) rest = (refl, refl)
component_again (YearCentury Calendar Automatic Bare Standard) rest = (refl, refl)
component_again (YearCentury Calendar Automatic Bare Extended) rest = (refl, refl)
component_again (YearCentury Calendar Mandatory Zero Standard) rest = (refl, refl)
component_again (YearCentury Calendar Mandatory Zero Extended) rest = (refl, refl)
component_again (YearCentury Calendar Mandatory Space Standard) rest = (refl, refl)
component_again (YearCentury Calendar Mandatory Space Extended) rest = (refl, refl)
component_again (YearCentury Calendar Mandatory Bare Standard) rest = (refl, refl)
component_again (YearCentury Calendar Mandatory Bare Extended) rest = (refl, refl)
component_again (YearCentury IsoWeek Automatic Zero Standard) rest = (refl, refl)
component_again (YearCentury IsoWeek Automatic Zero Extended) rest = (refl, refl)
component_again (YearCentury IsoWeek Automatic Space Standard) rest = (refl, refl)
component_again (YearCentury IsoWeek Automatic Space Extended) rest = (refl, refl)
component_again (YearCentury IsoWeek Automatic Bare Standard) rest = (refl, refl)
component_again (YearCentury IsoWeek Automatic Bare Extended) rest = (refl, refl)
component_again (YearCentury IsoWeek Mandatory Zero Standard) rest = (refl, refl)
component_again (YearCentury IsoWeek Mandatory Zero Extended) rest = (refl, refl)
component_again (YearCentury IsoWeek Mandatory Space Standard) rest = (refl, refl)
component_again (YearCentury IsoWeek Mandatory Space Extended) rest = (refl, refl)
component_again (YearCentury IsoWeek Mandatory Bare Standard) rest = (refl, refl)
component_again (YearCentury IsoWeek Mandatory Bare Extended) rest = (refl, refl)
component_again (YearLastTwo Calendar Zero) rest = (refl, refl)
component_again (YearLastTwo Calendar Space) rest = (refl, refl)
component_again (YearLastTwo Calendar Bare) rest = (refl, refl)
component_again (YearLastTwo IsoWeek Zero) rest = (refl, refl)
component_again (YearLastTwo IsoWeek Space) rest = (refl, refl)
component_again (YearLastTwo IsoWeek Bare) rest = (refl, refl)
component_again (Month Zero) rest = (refl, refl)
component_again (Month Space) rest = (refl, refl)
component_again (Month Bare) rest = (refl, refl)
component_again (MonthName Long Same) rest = (refl, refl)
component_again (MonthName Long Any) rest = (refl, refl)
component_again (MonthName Short Same) rest = (refl, refl)
component_again (MonthName Short Any) rest = (refl, refl)
component_again (Day Zero) rest = (refl, refl)
component_again (Day Space) rest = (refl, refl)
component_again (Day Bare) rest = (refl, refl)
component_again (Ordinal Zero) rest = (refl, refl)
component_again (Ordinal Space) rest = (refl, refl)
component_again (Ordinal Bare) rest = (refl, refl)
component_again (WeekdayName Long Same) rest = (refl, refl)
component_again (WeekdayName Long Any) rest = (refl, refl)
component_again (WeekdayName Short Same) rest = (refl, refl)
component_again (WeekdayName Short Any) rest = (refl, refl)
component_again (WeekdayNumber FromSunday FromZero) rest = (refl, refl)
component_again (WeekdayNumber FromSunday FromOne) rest = (refl, refl)
component_again (WeekdayNumber FromMonday FromZero) rest = (refl, refl)
component_again (WeekdayNumber FromMonday FromOne) rest = (refl, refl)
component_again (WeekNumber Iso Zero) rest = (refl, refl)
component_again (WeekNumber Iso Space) rest = (refl, refl)
component_again (WeekNumber Iso Bare) rest = (refl, refl)
component_again (WeekNumber Sunday Zero) rest = (refl, refl)
component_again (WeekNumber Sunday Space) rest = (refl, refl)
component_again (WeekNumber Sunday Bare) rest = (refl, refl)
component_again (WeekNumber Monday Zero) rest = (refl, refl)
component_again (WeekNumber Monday Space) rest = (refl, refl)
component_again (WeekNumber Monday Bare) rest = (refl, refl)
component_again (Hour Zero) rest = (refl, refl)
component_again (Hour Space) rest = (refl, refl)
component_again (Hour Bare) rest = (refl, refl)
component_again (Hour12 Zero) rest = (refl, refl)
component_again (Hour12 Space) rest = (refl, refl)
component_again (Hour12 Bare) rest = (refl, refl)
component_again (Period Upper Same) rest = (refl, refl)
component_again (Period Upper Any) rest = (refl, refl)
component_again (Period Lower Same) rest = (refl, refl)
component_again (Period Lower Any) rest = (refl, refl)
component_again (Minute Zero) rest = (refl, refl)
component_again (Minute Space) rest = (refl, refl)
component_again (Minute Bare) rest = (refl, refl)
component_again (Second Zero) rest = (refl, refl)
component_again (Second Space) rest = (refl, refl)
component_again (Second Bare) rest = (refl, refl)
component_again (Subsecond OneOrMore) rest = (refl, refl)
component_again (Subsecond One) rest = (refl, refl)
component_again (Subsecond Two) rest = (refl, refl)
component_again (Subsecond Three) rest = (refl, refl)
component_again (Subsecond Four) rest = (refl, refl)
component_again (Subsecond Five) rest = (refl, refl)
component_again (Subsecond Six) rest = (refl, refl)
component_again (Subsecond Seven) rest = (refl, refl)
component_again (Subsecond Eight) rest = (refl, refl)
component_again (Subsecond Nine) rest = (refl, refl)
component_again (OffsetHour Automatic Zero) rest = (refl, refl)
component_again (OffsetHour Automatic Space) rest = (refl, refl)
component_again (OffsetHour Automatic Bare) rest = (refl, refl)
component_again (OffsetHour Mandatory Zero) rest = (refl, refl)
component_again (OffsetHour Mandatory Space) rest = (refl, refl)
component_again (OffsetHour Mandatory Bare) rest = (refl, refl)
component_again (OffsetMinute Zero) rest = (refl, refl)
component_again (OffsetMinute Space) rest = (refl, refl)
component_again (OffsetMinute Bare) rest = (refl, refl)
component_again (OffsetSecond Zero) rest = (refl, refl)
component_again (OffsetSecond Space) rest = (refl, refl)
component_again (OffsetSecond Bare) rest = (refl, refl)
component_again (UnixTimestamp Seconds Automatic) rest = (refl, refl)
component_again (UnixTimestamp Seconds Mandatory) rest = (refl, refl)
component_again (UnixTimestamp Milliseconds Automatic) rest = (refl, refl)
component_again (UnixTimestamp Milliseconds Mandatory) rest = (refl, refl)
component_again (UnixTimestamp Microseconds Automatic) rest = (refl, refl)
component_again (UnixTimestamp Microseconds Mandatory) rest = (refl, refl)
component_again (UnixTimestamp Nanoseconds Automatic) rest = (refl, refl)
component_again (UnixTimestamp Nanoseconds Mandatory) rest = (refl, refl)
component_again End rest = (refl, refl)
component_again (Ignore count) rest = elim (cases_Bool (count == 0 || nat_lt 65_535 count)) [
  | inl t ↦ rw t tt
  | inr f ↦ rw f (refl, ignore_again count rest (grind (arith, nat_tests, f)) (grind (arith, nat_tests, f)))
]
component_again (IgnoreWeekday form case) rest = tt
component_again IgnoreDigits rest = tt
component_again (OffsetWord word case) rest = tt
component_again (YearSince first) rest = tt
component_again (YearSix base) rest = tt
component_again (HourFraction digits) rest = tt
component_again (MinuteFraction digits) rest = tt
