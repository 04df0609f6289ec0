-- The forms of texts are those of the RFC's grammar.
use Rattle.std.proofs.Common.{◌≡◌, ◌⊎◌, inl, inr, refl, sym, ap, ◌∙◌, ℕ, zero, suc, ◌+◌, ◌-◌, ◌*◌, ◌/◌, ◌%◌, ◌<◌, ◌≤◌, arith}
use Rattle.std.proofs.Common.{Bool, true, false, not, ◌&&◌, if◌then◌else◌}
use Rattle.std.proofs.Common.{List, [], ◌∷◌, ◌++◌, length, take, Option, Some, None, Result, Ok, Err, nat_eq}
use Rattle.std.specs.Prelude.{IsTrue, codes, ℤ, unsigned_abs}
use Rattle.std.specs.Char.{is_ascii_digit, to_ascii_lowercase}
use Rattle.std.specs.List.{list_all}
use Rattle.std.proofs.lemmas.Bool.{and_parts}
use Rattle.std.proofs.lemmas.Bool.Decides.{nat_tests}
use Rattle.std.proofs.lemmas.Option.{same_Some}
use Rattle.calendar_values.specs.Digits.{last_digits}
use Rattle.rfc3339.specs.Abnf.{quoted, rule, ◌or◌, times, optional, Grammar, Derives}
use Rattle.rfc3339.specs.Abnf.Derives.{in_either_case, in_range, by_rule, both, left, right, no_more, one_more, repeated}
use Rattle.rfc3339.proofs.AbnfLemmas.{take_quoted, take_range, take_both, take_or, take_none, take_more, take_repeat, opened, once, take_once, same-one}
use Rattle.rfc3339.specs.Form.{is_separator, fraction_value, IsFraction, IsOffsetText, IsDateTime, spelling, clock_digits}
use Rattle.rfc3339.specs.FullDates.{full_date_reading_of, IsFullDate, full_date_digits, full_date_meaning, full_date_text, HasFullDate}
use Rattle.rfc3339.specs.Grammar.{digit, rfc3339, date_time}
use Rattle.rfc3339.specs.Meaning.{meaning}
use Rattle.rfc3339.specs.FullDateLemmas.{full_date_reading_of-spelled, full_date_reading_of-syntax}
use Rattle.rfc3339.specs.Texts.{HasText, parts_of, rfc3339_text, digits_text, HasFixedText, fixed_text, fixed_text_at, time_offset_text, fraction_of_digits}
use Rattle.rfc3339.specs.ValueLemmas.{IsFraction-text, IsOffsetText-text}
use Rattle.rfc3339.specs.WrittenDigitLemmas.{last_digits-are}
use Rattle.rfc3339.proofs.DigitTextLemmas.{IsFraction-digits}
use Rattle.offset_times.specs.Local.{Local, local_in_utc, instant_of}
use Rattle.stamp_times.specs.Texts.{fraction_text}
use Rattle.calendar_values.specs.Calendar.{year_of, month_of, day_of_month_of}
use Rattle.calendar_values.specs.Clock.{nanosecond_of}
use Rattle.calendar_values.specs.WallClock.{wall_time}
use Rattle.calendar_values.specs.DigitCountLemmas.{length-last_digits}
use Rattle.std.specs.Prelude.{◌↔◌}
use Rattle.std.specs.Result.{result_map_both}
use Rattle.std.proofs.lemmas.List.{append_cancel_right}
use Rattle.rfc3339.specs.Faults.{standing}
use Rattle.rfc3339.specs.Front.{front_meaning, front_reading_of}
use Rattle.rfc3339.specs.Reading.{front_at, reading_of}
use Rattle.rfc3339.specs.TextLemmas.{front_takes, front_again}
use Rattle.rfc3339.proofs.FaultFormLemmas.{begins_some, longest_of_form}
use Rattle.rfc3339.specs.declared.refusal.TextRefusal.{TextRefusal}
use Rattle.rfc3339.specs.LeapSeconds.{leap_reading_of, leap_meaning, leap_outcome, stand_in, is_last_of_month}
use Rattle.rfc3339.proofs.LeapLemmas.{syntax_leap, leap_reading_of-spelled}
use Rattle.rfc3339.specs.ReadingLemmas.{reading_of-spelled, reading_of-syntax}
use Rattle.rfc3339.specs.declared.parts.Parts.{Parts}
use Rattle.rfc3339.specs.declared.refusal.Component.TheVariants.{Second}
use Rattle.rfc3339.specs.declared.refusal.TextRefusal.TheVariants.{Syntax, OutOfRange}

-- ---- quoted texts

mark-is : (w c : ℕ) → w < 65 → w ≡ to_ascii_lowercase c → c ≡ w
mark-is w c low e = grind (arith, nat_tests)

-- a mark below the letters
take_mark : {g : Grammar} (w : ℕ) (text : List ℕ) → w < 65 → Derives g (quoted (w ∷ [])) text → text ≡ w ∷ []
take_mark w text low d =
    let one = same-one w text (take_quoted d) in
    let same : to_ascii_lowercase w ≡ w = grind (arith, nat_tests) in
    one.1 ∙ ap (λ (z : ℕ). z ∷ []) (mark-is w one.0 low (sym same ∙ one.2))

letter-is : (w c : ℕ) → 97 ≤ w → w ≤ 122 → w ≡ to_ascii_lowercase c → (c ≡ w) ⊎ (c ≡ w - 32)
letter-is w c low high e = grind (arith, nat_tests)

-- ---- digits

one_digit : (c : ℕ) → 48 ≤ c → c ≤ 57 → Derives rfc3339 digit (c ∷ [])
unfolding rfc3339
one_digit c low high = by_rule refl (in_range low high)

two : (n : ℕ) → Derives rfc3339 (times 2 digit) (last_digits 2 n)
unfolding last_digits
two n = one_more (one_digit (48 + n / 10 % 10) (omega arith) (omega arith)) (one_more (one_digit (48 + n % 10) (omega arith) (omega arith)) no_more)

four : (n : ℕ) → Derives rfc3339 (times 4 digit) (last_digits 4 n)
unfolding last_digits
four n =
    one_more (one_digit (48 + n / 10 / 10 / 10 % 10) (omega arith) (omega arith))
    (one_more (one_digit (48 + n / 10 / 10 % 10) (omega arith) (omega arith)) (two n))

-- a digit, and the rest
record FirstDigit (k : ℕ) (text : List ℕ) : Type 0 where
  first : ℕ
  rest : List ℕ
  parts : text ≡ first ∷ rest
  low : 48 ≤ first
  high : first ≤ 57
  more : Derives rfc3339 (times k digit) rest

take_digit : (k : ℕ) (text : List ℕ) → Derives rfc3339 (times (suc k) digit) text → FirstDigit k text
unfolding rfc3339
take_digit k text d =
    let a = take_more d in
    let c = take_range (opened (codes "DIGIT") refl a.3) in
    record { first = c.0; rest = a.1; parts = a.2 ∙ ap (λ (z : List ℕ). z ++ a.1) c.1; low = c.2; high = c.3; more = a.4 }

take_two : (text : List ℕ) → Derives rfc3339 (times 2 digit) text → (n : ℕ) × (n < 100) × (text ≡ last_digits 2 n)
unfolding last_digits
take_two text d =
    let a = take_digit 1 text d in
    let b = take_digit 0 a.rest a.more in
    let n = (a.first - 48) * 10 + (b.first - 48) in
    let tens : a.first ≡ 48 + n / 10 % 10 = omega (arith, a.low, a.high, b.low, b.high) in
    let units : b.first ≡ 48 + n % 10 = omega (arith, a.low, a.high, b.low, b.high) in
    let whole : text ≡ a.first ∷ b.first ∷ [] = a.parts ∙ ap (λ (z : List ℕ). a.first ∷ z) (b.parts ∙ ap (λ (z : List ℕ). b.first ∷ z) (take_none b.more)) in
    (n, omega (arith, a.low, a.high, b.low, b.high), whole ∙ ap (λ (z : ℕ). z ∷ b.first ∷ []) tens ∙ ap (λ (z : ℕ). (48 + n / 10 % 10) ∷ z ∷ []) units)

take_four : (text : List ℕ) → Derives rfc3339 (times 4 digit) text → (n : ℕ) × (n < 10_000) × (text ≡ last_digits 4 n)
unfolding last_digits
take_four text d =
    let a = take_digit 3 text d in
    let b = take_digit 2 a.rest a.more in
    let c = take_two b.rest b.more in
    let n = ((a.first - 48) * 10 + (b.first - 48)) * 100 + c.0 in
    let first : a.first ≡ 48 + n / 10 / 10 / 10 % 10 = omega (arith, a.low, a.high, b.low, b.high, c.1) in
    let second : b.first ≡ 48 + n / 10 / 10 % 10 = omega (arith, a.low, a.high, b.low, b.high, c.1) in
    let tens : c.0 / 10 % 10 ≡ n / 10 % 10 = omega (arith, c.1) in
    let units : c.0 % 10 ≡ n % 10 = omega (arith, c.1) in
    let whole : text ≡ a.first ∷ b.first ∷ last_digits 2 c.0 = a.parts ∙ ap (λ (z : List ℕ). a.first ∷ z) (b.parts ∙ ap (λ (z : List ℕ). b.first ∷ z) c.2) in (
      n,
      omega (arith, a.low, a.high, b.low, b.high, c.1),
      whole ∙ ap (λ (z : ℕ). z ∷ b.first ∷ last_digits 2 c.0) first
          ∙ ap (λ (z : ℕ). (48 + n / 10 / 10 / 10 % 10) ∷ z ∷ last_digits 2 c.0) second
          ∙ ap (λ (z : ℕ). (48 + n / 10 / 10 / 10 % 10) ∷ (48 + n / 10 / 10 % 10) ∷ (48 + z) ∷ (48 + c.0 % 10) ∷ []) tens
          ∙ ap (λ (z : ℕ). (48 + n / 10 / 10 / 10 % 10) ∷ (48 + n / 10 / 10 % 10) ∷ (48 + n / 10 % 10) ∷ (48 + z) ∷ []) units,
    )

-- as many as there are
all_digits : (digits : List ℕ) → IsTrue (list_all is_ascii_digit digits) → Derives rfc3339 (times (length digits) digit) digits
all_digits [] all = no_more
all_digits (first ∷ digits) all =
    let parts = and_parts (is_ascii_digit first) (list_all is_ascii_digit digits) all in
    let low : 48 ≤ first = grind (arith, nat_tests, parts.0) in
    let high : first ≤ 57 = grind (arith, nat_tests, parts.0) in
    one_more (one_digit first low high) (all_digits digits parts.1)

digit-is : (c : ℕ) → 48 ≤ c → c ≤ 57 → is_ascii_digit c ≡ true
digit-is c low high = grind (arith, nat_tests)

take_all : (k : ℕ) (text : List ℕ) → Derives rfc3339 (times k digit) text → IsTrue (list_all is_ascii_digit text) × (length text ≡ k)
take_all zero text d = rw (take_none d) (refl, refl)
take_all (suc k) text d =
    let a = take_digit k text d in
    let more = take_all k a.rest a.more in
    rw (a.parts, digit-is a.first a.low a.high) (more.0, ap (λ (z : ℕ). suc z) more.1)

-- ---- a fraction

fraction_derived : (text : List ℕ) (n : ℕ) → IsFraction text n → Derives rfc3339 (optional (rule (codes "time-secfrac"))) text
unfolding rfc3339
fraction_derived text n (inl none) = rw none.0 (repeated {least = 0} {k = 0} {most = Some 1} (omega arith) (omega arith) no_more)
fraction_derived text n (inr some) =
    let digits = repeated {least = 1} {k = length some.0} {most = None} (omega (arith, some.2)) tt (all_digits some.0 some.3) in
    let mark : Derives rfc3339 (quoted (codes ".")) (codes ".") = in_either_case refl in
    rw some.1 (repeated {least = 0} {k = 1} {most = Some 1} (omega arith) (omega arith) (once (codes "." ++ some.0) (by_rule refl (both mark digits))))

take_fraction : (text : List ℕ) → Derives rfc3339 (optional (rule (codes "time-secfrac"))) text → (n : ℕ) × IsFraction text n
unfolding rfc3339
take_fraction text d = let r = take_repeat d in cases r.0 r.2 r.3 where
  cases : (k : ℕ) → k ≤ 1 → Derives rfc3339 (times k (rule (codes "time-secfrac"))) text → (n : ℕ) × IsFraction text n
  cases zero low d = (0, inl (take_none d, refl))
  cases (suc (suc k)) low d = absurd (omega arith)
  cases (suc zero) low d =
      let a = take_both (opened (codes "time-secfrac") refl (take_once text d)) in
      let point = take_mark 46 a.0 (omega arith) a.3 in
      let r = take_repeat a.4 in
      let all = take_all r.0 a.1 r.3 in
      (fraction_value 100_000_000 a.1, inr (a.1, a.2 ∙ ap (λ (z : List ℕ). z ++ a.1) point, omega (arith, r.1, all.1), all.0, refl))

-- ---- an offset

zone_derived : (text : List ℕ) (is_west : Bool) (hour minute : ℕ) → IsOffsetText text is_west hour minute → Derives rfc3339 (rule (codes "time-offset")) text
unfolding rfc3339 last_digits
zone_derived text is_west hour minute (inl (inl upper, _, _, _)) = rw upper (by_rule refl (left (in_either_case refl)))
zone_derived text is_west hour minute (inl (inr lower, _, _, _)) = rw lower (by_rule refl (left (in_either_case refl)))
zone_derived text true hour minute (inr e) =
    let sign : Derives rfc3339 (quoted (codes "+") or quoted (codes "-")) (codes "-") = right (in_either_case refl) in
    let colon : Derives rfc3339 (quoted (codes ":")) (codes ":") = in_either_case refl in
    let hours : Derives rfc3339 (rule (codes "time-hour")) (last_digits 2 hour) = by_rule refl (two hour) in
    let minutes : Derives rfc3339 (rule (codes "time-minute")) (last_digits 2 minute) = by_rule refl (two minute) in
    rw e (by_rule refl (right (by_rule refl (both sign (both hours (both colon minutes))))))
zone_derived text false hour minute (inr e) =
    let sign : Derives rfc3339 (quoted (codes "+") or quoted (codes "-")) (codes "+") = left (in_either_case refl) in
    let colon : Derives rfc3339 (quoted (codes ":")) (codes ":") = in_either_case refl in
    let hours : Derives rfc3339 (rule (codes "time-hour")) (last_digits 2 hour) = by_rule refl (two hour) in
    let minutes : Derives rfc3339 (rule (codes "time-minute")) (last_digits 2 minute) = by_rule refl (two minute) in
    rw e (by_rule refl (right (by_rule refl (both sign (both hours (both colon minutes))))))

record TakenZone (text : List ℕ) : Type 0 where
  is_west : Bool
  hour : ℕ
  minute : ℕ
  hour_fits : hour < 100
  minute_fits : minute < 100
  is : IsOffsetText text is_west hour minute

same_four : (text s t u v w x s' v' : List ℕ) → text ≡ s ++ t → t ≡ u ++ v → v ≡ w ++ x → s ≡ s' → w ≡ v' → text ≡ s' ++ (u ++ (v' ++ x))
same_four text s t u v w x s' v' e f g h i = rw (e, f, g, h, i) refl

take_zone : (text : List ℕ) → Derives rfc3339 (rule (codes "time-offset")) text → TakenZone text
unfolding rfc3339 last_digits
take_zone text d = whole (take_or (opened (codes "time-offset") refl d)) where
  utc : IsOffsetText text false 0 0 → TakenZone text
  utc is = record { is_west = false; hour = 0; minute = 0; hour_fits = omega arith; minute_fits = omega arith; is = is }

  letter : (c : ℕ) → text ≡ c ∷ [] → (c ≡ 122) ⊎ (c ≡ 90) → TakenZone text
  letter c e (inl f) = utc (inl (inr (rw f at e), refl, refl, refl))
  letter c e (inr f) = utc (inl (inl (rw f at e), refl, refl, refl))

  signed : (s t u v w x : List ℕ) → text ≡ s ++ t → t ≡ u ++ v → v ≡ w ++ x → Derives rfc3339 (rule (codes "time-hour")) u
      → Derives rfc3339 (quoted (codes ":")) w
      → Derives rfc3339 (rule (codes "time-minute")) x → Derives rfc3339 (quoted (codes "+")) s ⊎ Derives rfc3339 (quoted (codes "-")) s → TakenZone text
  signed s t u v w x e f g hours colon minutes sign =
      let hour = take_two u (opened (codes "time-hour") refl hours) in
      let minute = take_two x (opened (codes "time-minute") refl minutes) in
      let mark = take_mark 58 w (omega arith) colon in
      elim sign [
        | inl plus ↦ record {
          is_west = false;
          hour = hour.0;
          minute = minute.0;
          hour_fits = hour.1;
          minute_fits = minute.1;
          is = inr (rw (hour.2, minute.2) at (same_four text s t u v w x (codes "+") (codes ":") e f g (take_mark 43 s (omega arith) plus) mark));
        }
        | inr minus ↦ record {
          is_west = true;
          hour = hour.0;
          minute = minute.0;
          hour_fits = hour.1;
          minute_fits = minute.1;
          is = inr (rw (hour.2, minute.2) at (same_four text s t u v w x (codes "-") (codes ":") e f g (take_mark 45 s (omega arith) minus) mark));
        }
      ]

  whole : Derives rfc3339 (quoted (codes "Z")) text ⊎ Derives rfc3339 (rule (codes "time-numoffset")) text → TakenZone text
  whole (inl z) = let one = same-one 90 text (take_quoted z) in letter one.0 one.1 (letter-is 122 one.0 (omega arith) (omega arith) one.2)
  whole (inr n) =
      let a = take_both (opened (codes "time-numoffset") refl n) in
      let b = take_both a.4 in
      let c = take_both b.4 in
      signed a.0 a.1 b.0 b.1 c.0 c.1 a.2 b.2 c.2 b.3 c.3 c.4 (take_or a.3)

-- ---- a separator

which : (c : ℕ) → IsTrue (is_separator c) → ((c ≡ 84) ⊎ (c ≡ 116)) ⊎ (c ≡ 32)
which c h = grind (arith, nat_tests)

take_letter : (text : List ℕ) → Derives rfc3339 (quoted (codes "T")) text → (c : ℕ) × (text ≡ c ∷ []) × IsTrue (is_separator c)
take_letter text d =
    let one = same-one 84 text (take_quoted d) in
    elim (letter-is 116 one.0 (omega arith) (omega arith) one.2) [
      | inl e ↦ (one.0, one.1, rw e refl)
      | inr e ↦ (one.0, one.1, rw e refl)
    ]

-- ---- a date

date_derived : (year month day : ℕ) → Derives rfc3339 (rule (codes "full-date")) (full_date_digits year month day)
unfolding rfc3339 last_digits
date_derived year month day =
    let dash : Derives rfc3339 (quoted (codes "-")) (codes "-") = in_either_case refl in
    let years : Derives rfc3339 (rule (codes "date-fullyear")) (last_digits 4 year) = by_rule refl (four year) in
    let months : Derives rfc3339 (rule (codes "date-month")) (last_digits 2 month) = by_rule refl (two month) in
    let days : Derives rfc3339 (rule (codes "date-mday")) (last_digits 2 day) = by_rule refl (two day) in
    by_rule refl (both years (both dash (both months (both dash days))))

same_date : (text s t u v w x y z u' y' : List ℕ) → text ≡ s ++ t → t ≡ u ++ v → v ≡ w ++ x → x ≡ y ++ z → u ≡ u' → y ≡ y'
    → text ≡ s ++ (u' ++ (w ++ (y' ++ z)))
same_date text s t u v w x y z u' y' e f g h i j = rw (e, f, g, h, i, j) refl

take_date : (text : List ℕ) → Derives rfc3339 (rule (codes "full-date")) text → (year : ℕ) × (month : ℕ) × (day : ℕ) × IsFullDate text year month day
unfolding rfc3339 last_digits
take_date text d =
    let a = take_both (opened (codes "full-date") refl d) in
    let b = take_both a.4 in
    let c = take_both b.4 in
    let e = take_both c.4 in
    let year = take_four a.0 (opened (codes "date-fullyear") refl a.3) in
    let month = take_two c.0 (opened (codes "date-month") refl c.3) in
    let day = take_two e.1 (opened (codes "date-mday") refl e.4) in
    let whole = same_date text a.0 a.1 b.0 b.1 c.0 c.1 e.0 e.1 (codes "-") (codes "-") a.2 b.2 c.2 e.2
    (take_mark 45 b.0 (omega arith) b.3) (take_mark 45 e.0 (omega arith) e.3) in
    (year.0, month.0, day.0, record { spelled = rw (year.2, month.2, day.2) at whole; year_fits = year.1; month_fits = month.1; day_fits = day.1 })

-- ---- a time of day

time_derived : (hour minute second : ℕ) (fraction : List ℕ) → Derives rfc3339 (optional (rule (codes "time-secfrac"))) fraction
    → Derives rfc3339 (rule (codes "partial-time")) (last_digits 2 hour ++ codes ":" ++ last_digits 2 minute ++ codes ":" ++ last_digits 2 second ++ fraction)
unfolding rfc3339 last_digits
time_derived hour minute second fraction d =
    let colon : Derives rfc3339 (quoted (codes ":")) (codes ":") = in_either_case refl in
    let hours : Derives rfc3339 (rule (codes "time-hour")) (last_digits 2 hour) = by_rule refl (two hour) in
    let minutes : Derives rfc3339 (rule (codes "time-minute")) (last_digits 2 minute) = by_rule refl (two minute) in
    let seconds : Derives rfc3339 (rule (codes "time-second")) (last_digits 2 second) = by_rule refl (two second) in
    by_rule refl (both hours (both colon (both minutes (both colon (both seconds d)))))

record TakenTime (text : List ℕ) : Type 0 where
  hour : ℕ
  minute : ℕ
  second : ℕ
  nanosecond : ℕ
  fraction : List ℕ
  hour_fits : hour < 100
  minute_fits : minute < 100
  second_fits : second < 100
  is_fraction : IsFraction fraction nanosecond
  parts : text ≡ last_digits 2 hour ++ codes ":" ++ last_digits 2 minute ++ codes ":" ++ last_digits 2 second ++ fraction

same_time : (text s t u v w x y z o q u' y' : List ℕ) → text ≡ s ++ t → t ≡ u ++ v → v ≡ w ++ x → x ≡ y ++ z → z ≡ o ++ q → u ≡ u' → y ≡ y'
    → text ≡ s ++ (u' ++ (w ++ (y' ++ (o ++ q))))
same_time text s t u v w x y z o q u' y' e f g h k i j = rw (e, f, g, h, k, i, j) refl

take_time : (text : List ℕ) → Derives rfc3339 (rule (codes "partial-time")) text → TakenTime text
unfolding rfc3339 last_digits
take_time text d =
    let a = take_both (opened (codes "partial-time") refl d) in
    let b = take_both a.4 in
    let c = take_both b.4 in
    let e = take_both c.4 in
    let f = take_both e.4 in
    let hour = take_two a.0 (opened (codes "time-hour") refl a.3) in
    let minute = take_two c.0 (opened (codes "time-minute") refl c.3) in
    let second = take_two f.0 (opened (codes "time-second") refl f.3) in
    let fraction = take_fraction f.1 f.4 in
    let whole = same_time text a.0 a.1 b.0 b.1 c.0 c.1 e.0 e.1 f.0 f.1 (codes ":") (codes ":") a.2 b.2 c.2 e.2 f.2
    (take_mark 58 b.0 (omega arith) b.3) (take_mark 58 e.0 (omega arith) e.3) in
    record {
      hour = hour.0;
      minute = minute.0;
      second = second.0;
      nanosecond = fraction.0;
      fraction = f.1;
      hour_fits = hour.1;
      minute_fits = minute.1;
      second_fits = second.1;
      is_fraction = fraction.1;
      parts = rw (hour.2, minute.2, second.2) at whole;
    }

-- ---- a date-time

derived : (text : List ℕ) (p : Parts) → IsDateTime text p → Derives rfc3339 date_time text
unfolding rfc3339 last_digits
derived text p h =
    let date = date_derived p.year p.month p.day in
    let time = time_derived p.hour p.minute p.second h.fraction (fraction_derived h.fraction p.nanosecond h.is_fraction) in
    let zone = zone_derived h.offset p.is_west p.offset_hour p.offset_minute h.is_offset in
    let all : Derives rfc3339 (rule (codes "full-time")) (clock_digits p ++ h.fraction ++ h.offset) = by_rule refl (both time zone) in
    let upper : Derives rfc3339 (quoted (codes "T")) (codes "T") = in_either_case refl in
    let lower : Derives rfc3339 (quoted (codes "T")) (codes "t") = in_either_case refl in
    let space : Derives rfc3339 (quoted (codes " ")) (codes " ") = in_either_case refl in
    elim (which h.separator h.is_separator) [
      | inl (inl e) ↦ rw (h.spelled, e) (left (by_rule refl (both date (both upper all))))
      | inl (inr e) ↦ rw (h.spelled, e) (left (by_rule refl (both date (both lower all))))
      | inr e ↦ rw (h.spelled, e) (right (both date (both space all)))
    ]

same_whole : (text s t u v w x s' u' w' : List ℕ) → text ≡ s ++ t → t ≡ u ++ v → v ≡ w ++ x → s ≡ s' → u ≡ u' → w ≡ w' → text ≡ s' ++ (u' ++ (w' ++ x))
same_whole text s t u v w x s' u' w' e f g h i j = rw (e, f, g, h, i, j) refl

-- from a date, a separator and a time
from_three : (text s t u v : List ℕ) (separator : ℕ) → text ≡ s ++ t → t ≡ u ++ v → u ≡ separator ∷ [] → IsTrue (is_separator separator)
    → Derives rfc3339 (rule (codes "full-date")) s
    → Derives rfc3339 (rule (codes "full-time")) v → (p : Parts) × IsDateTime text p
unfolding rfc3339 last_digits
from_three text s t u v separator e f mark is_mark d g =
    let c = take_both (opened (codes "full-time") refl g) in
    let date = take_date s d in
    let time = take_time c.0 c.3 in
    let zone = take_zone c.1 c.4 in
    let p : Parts = record {
      year = date.0;
      month = date.1;
      day = date.2;
      hour = time.hour;
      minute = time.minute;
      second = time.second;
      nanosecond = time.nanosecond;
      is_west = zone.is_west;
      offset_hour = zone.hour;
      offset_minute = zone.minute;
    } in (
      p,
      record {
        separator = separator;
        fraction = time.fraction;
        offset = c.1;
        spelled = same_whole text s t u v c.0 c.1 _ _ _ e f c.2 date.3.spelled mark time.parts;
        is_separator = is_mark;
        is_fraction = time.is_fraction;
        is_offset = zone.is;
        fits = record {
          year = date.3.year_fits;
          month = date.3.month_fits;
          day = date.3.day_fits;
          hour = time.hour_fits;
          minute = time.minute_fits;
          second = time.second_fits;
          offset_hour = zone.hour_fits;
          offset_minute = zone.minute_fits;
        };
      },
    )

taken : (text : List ℕ) → Derives rfc3339 date_time text → (p : Parts) × IsDateTime text p
unfolding rfc3339
taken text d = elim (take_or d) [
  | inl t ↦
      let a = take_both (opened (codes "date-time") refl t) in
      let b = take_both a.4 in
      let mark = take_letter b.0 b.3 in
      from_three text a.0 a.1 b.0 b.1 mark.0 a.2 b.2 mark.1 mark.2 a.3 b.4
  | inr t ↦
      let a = take_both t in
      let b = take_both a.4 in
      from_three text a.0 a.1 b.0 b.1 32 a.2 b.2 (take_mark 32 b.0 (omega arith) b.3) refl a.3 b.4
]

pub date_time-form : (text : List ℕ) → ((p : Parts) × IsDateTime text p) ↔ Derives rfc3339 date_time text
date_time-form text = (λ h. derived text h.0 h.1, taken text)

pub full_date-form : (text : List ℕ)
    → ((year : ℕ) × (month : ℕ) × (day : ℕ) × IsFullDate text year month day) ↔ Derives rfc3339 (rule (codes "full-date")) text
full_date-form text = (λ h. rw h.3.spelled (date_derived h.0 h.1 h.2), take_date text)

-- ---- a refusal of the form

-- no numbers mean that
meaning-other : (p : Parts) → meaning p ≡ Err Syntax → ⊥
unfolding meaning
meaning-other p e = absurd (grind arith)

date-other : (year month day : ℕ) → full_date_meaning year month day ≡ Err Syntax → ⊥
date-other year month day e = absurd (grind arith)

leap-other : (is_leap : Bool) (p : Parts) (m : Result Local TextRefusal) → m ≡ meaning (stand_in p) → leap_outcome is_leap m ≡ Err Syntax → ⊥
leap-other is_leap p (Err d) e f = let same : d ≡ Syntax = cc in meaning-other (stand_in p) (sym e ∙ ap Err same)
leap-other is_leap p (Ok at) e f = absurd (choose (is_leap && not (is_last_of_month (instant_of at))) f) where
  choose : (t : Bool) → ◌≡◌ {A = Result (Local × Bool) TextRefusal} (if t then Err (OutOfRange Second) else Ok (at, is_leap)) (Err Syntax) → ⊥
  choose true f = absurd cc
  choose false f = absurd cc

leap_meaning-other : (p : Parts) → leap_meaning p ≡ Err Syntax → ⊥
unfolding leap_meaning
leap_meaning-other p e = leap-other (nat_eq p.second 60) p (meaning (stand_in p)) refl e

pub date_time-refused : (text : List ℕ) → (reading_of text ≡ Err Syntax) ↔ ¬ Derives rfc3339 date_time text
date_time-refused text = (
  λ refused d. let h = taken text d in meaning-other h.0 (sym (reading_of-spelled text h.0 h.1) ∙ refused),
  λ none. elim (reading_of-syntax text) [
    | inl refused ↦ refused
    | inr h ↦ absurd (none (derived text h.0 h.1))
  ],
)

pub leap-refused : (text : List ℕ) → (leap_reading_of text ≡ Err Syntax) ↔ ¬ Derives rfc3339 date_time text
leap-refused text = (
  λ refused d.
      let h = taken text d in
      leap_meaning-other h.0 (sym (leap_reading_of-spelled text h.0 h.1) ∙ refused),
  λ none. elim (syntax_leap text (leap_reading_of text) refl) [
    | inl refused ↦ refused
    | inr h ↦ absurd (none (derived text h.0 h.1))
  ],
)

pub full_date-refused : (text : List ℕ) → (full_date_reading_of text ≡ Err Syntax) ↔ ¬ Derives rfc3339 (rule (codes "full-date")) text
full_date-refused text = (
  λ refused d. let h = take_date text d in date-other h.0 h.1 h.2 (sym (full_date_reading_of-spelled text h.0 h.1 h.2 h.3) ∙ refused),
  λ none. elim (full_date_reading_of-syntax text) [
    | inl refused ↦ refused
    | inr h ↦ absurd (none (rw h.3.spelled (date_derived h.0 h.1 h.2)))
  ],
)

-- ---- what is written

-- with a T
strictly : (p : Parts) (fraction offset : List ℕ) (n : ℕ) (is_west : Bool) (hour minute : ℕ) → IsFraction fraction n → IsOffsetText offset is_west hour minute
    → Derives rfc3339 (rule (codes "date-time")) (spelling p 84 fraction offset)
unfolding rfc3339 last_digits
strictly p fraction offset n is_west hour minute f o =
    let date = date_derived p.year p.month p.day in
    let time = time_derived p.hour p.minute p.second fraction (fraction_derived fraction n f) in
    let zone = zone_derived offset is_west hour minute o in
    let all : Derives rfc3339 (rule (codes "full-time")) (clock_digits p ++ fraction ++ offset) = by_rule refl (both time zone) in
    let upper : Derives rfc3339 (quoted (codes "T")) (codes "T") = in_either_case refl in
    by_rule refl (both date (both upper all))

below : (at : Local) → nanosecond_of (wall_time at.wall) < 1_000_000_000
below at = omega arith

nine-digits : (n : ℕ) → IsFraction (codes "." ++ last_digits 9 n) (fraction_value 100_000_000 (last_digits 9 n))
nine-digits n = inr (last_digits 9 n, refl, omega (arith, length-last_digits 9 n), last_digits-are 9 n, refl)

pub rfc3339_text-derived : (at : Local) → HasText at → Derives rfc3339 (rule (codes "date-time")) (rfc3339_text at)
unfolding rfc3339_text
rfc3339_text-derived at h =
    let n = nanosecond_of (wall_time at.wall) in
    strictly (parts_of at) (fraction_text n) (time_offset_text at.offset) _ _ _ _ (IsFraction-text n (below at)) (IsOffsetText-text at.offset)

pub digits_text-derived : (k : ℕ) (at : Local) → k ≤ 9 → HasText at → Derives rfc3339 (rule (codes "date-time")) (digits_text k at)
unfolding digits_text
digits_text-derived k at low h =
    let n = nanosecond_of (wall_time at.wall) in
    let fraction = IsFraction-digits k n (below at) low in
    strictly (parts_of at) (fraction_of_digits k n) (time_offset_text at.offset) _ _ _ _ fraction (IsOffsetText-text at.offset)

pub fixed_text-derived : (i : ℤ) → HasFixedText i → Derives rfc3339 (rule (codes "date-time")) (fixed_text i)
unfolding fixed_text
fixed_text-derived i h =
    let n = nanosecond_of (wall_time i) in
    let utc = inl (inl refl, refl, refl, refl) in
    strictly (parts_of (local_in_utc i)) (codes "." ++ last_digits 9 n) (codes "Z") _ false 0 0 (nine-digits n) utc

pub fixed_text_at-derived : (at : Local) → HasText at → Derives rfc3339 (rule (codes "date-time")) (fixed_text_at at)
unfolding fixed_text_at
fixed_text_at-derived at h =
    let n = nanosecond_of (wall_time at.wall) in
    strictly (parts_of at) (codes "." ++ last_digits 9 n) (time_offset_text at.offset) _ _ _ _ (nine-digits n) (IsOffsetText-text at.offset)

pub full_date_text-derived : (n : ℤ) → HasFullDate n → Derives rfc3339 (rule (codes "full-date")) (full_date_text n)
unfolding full_date_text
full_date_text-derived n h = date_derived (unsigned_abs (year_of n)) (month_of n) (day_of_month_of n)

-- ---- beginnings

pub only_beginning : (s t s' t' : List ℕ) → s ++ t ≡ s' ++ t' → Derives rfc3339 date_time s → Derives rfc3339 date_time s' → s ≡ s'
only_beginning s t s' t' e d d' =
    let h = taken s d in
    let h' = taken s' d' in
    let f : front_at (s' ++ t') ≡ Some (h.0, t) = rw e at (front_again s h.0 t h.1) in
    let rest : t ≡ t' = ap (λ (z : Parts × List ℕ). z.1) (same_Some (h.0, t) (h'.0, t') (sym f ∙ front_again s' h'.0 t' h'.1)) in
    append_cancel_right s s' t (e ∙ ap (λ (z : List ℕ). s' ++ z) (sym rest))

abbrev counted : ℕ → Result Local TextRefusal → Result (Local × ℕ) TextRefusal
counted n r = result_map_both (λ at. (at, n)) (λ refusal. refusal) r

front-other : (p : Parts) (n : ℕ) (m : Result Local TextRefusal) → m ≡ meaning p → counted n m ≡ Err Syntax → ⊥
front-other p n (Ok at) e f = absurd cc
front-other p n (Err d) e f = let same : d ≡ Syntax = cc in meaning-other p (sym e ∙ ap Err same)

front_syntax : (text : List ℕ) (o : Option (Parts × List ℕ)) → front_at text ≡ o → front_meaning text o ≡ Err Syntax → o ≡ None
front_syntax text None e f = refl
front_syntax text (Some (p, rest)) e f = absurd (front-other p (length text - length rest) (meaning p) refl f)

front_none : (text : List ℕ) (o : Option (Parts × List ℕ)) → front_at text ≡ o
    → ¬ ((s : List ℕ) × (t : List ℕ) × (text ≡ s ++ t) × Derives rfc3339 date_time s) → front_meaning text o ≡ Err Syntax
front_none text None e none = refl
front_none text (Some (p, rest)) e none = let h = front_takes text p rest e in absurd (none (h.0, rest, h.1.parts, derived h.0 p h.1.is))

pub front-refused : (text : List ℕ) → (front_reading_of text ≡ Err Syntax) ↔ ¬ ((s : List ℕ) × (t : List ℕ) × (text ≡ s ++ t) × Derives rfc3339 date_time s)
unfolding front_reading_of
front-refused text = (
  λ refused h.
      let k = taken h.0 h.3 in
      let some : front_at text ≡ Some (k.0, h.1) = rw h.2 (front_again h.0 k.0 h.1 k.1) in
      let none = front_syntax text (front_at text) refl refused in
      absurd cc,
  front_none text (front_at text) refl,
)

pub begins : (text : List ℕ) → (rest : List ℕ) × Derives rfc3339 date_time (take (standing 0 text) text ++ rest)
begins text = let h = begins_some text in (h.0, derived (take (standing 0 text) text ++ h.0) h.1 h.2)

pub longest : (text : List ℕ) (n : ℕ) (rest : List ℕ) → n ≤ length text → Derives rfc3339 date_time (take n text ++ rest)
    → n ≤ standing 0 text
longest text n rest low d = let h = taken (take n text ++ rest) d in longest_of_form text n rest h.0 low h.1
