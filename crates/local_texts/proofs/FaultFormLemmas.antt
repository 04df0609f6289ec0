-- A text whose bytes are all valid is the beginning of a date-time without an offset, and each such date-time has only valid bytes.
use Rattle.std.proofs.Common.{◌≡◌, ◌≢◌, inl, inr, ℕ, zero, suc, ◌+◌, ◌-◌, ◌*◌, ◌%◌, ◌<◌}
use Rattle.std.proofs.Common.{◌≤◌, Bool, true, false, nat_eq, List, [], ◌∷◌, ◌++◌, length, take, drop}
use Rattle.std.proofs.Common.{append_assoc, length-append, refl, sym, ap, subst, ◌∙◌, arith}
use Rattle.std.specs.Prelude.{codes, IsTrue, ◌&&◌, ◌==◌, nat_lt, if◌then◌else◌}
use Rattle.std.specs.Char.{is_ascii_digit}
use Rattle.std.specs.List.{list_all}
use Rattle.std.proofs.Math.Seq.{take-append-add}
use Rattle.std.proofs.lemmas.Bool.{cases_Bool, and_parts, eqb-true}
use Rattle.std.proofs.lemmas.Bool.Decides.{nat_tests}
use Rattle.calendar_values.specs.Digits.{last_digits}
use Rattle.rfc3339.specs.declared.parts.Parts.{Parts}
use Rattle.rfc3339.specs.Faults.{may_stand}
use Rattle.rfc3339.specs.Form.{is_separator, fraction_value, IsFraction, IsDateTime}
use Rattle.rfc3339.specs.Reading.{parts_read}
use Rattle.local_texts.specs.LocalFaults.{is_valid_at, valid_bytes}
use Rattle.local_texts.specs.LocalForms.{IsLocalDateTime, IsLocalTime}
use Rattle.local_texts.proofs.LocalFormLemmas.{to_second, LocalForm, local_takes, local_again, length-to_second}
use Rattle.local_texts.proofs.FaultLemmas.{AreValid, valid_of, valid-append, valid-before, valid-longest}

-- ---- the form has only valid bytes

digit_written : (n : ℕ) → is_ascii_digit (48 + n % 10) ≡ true
digit_written n = grind (arith, nat_tests)

valid-to_second : (p : Parts) (separator : ℕ) (rest : List ℕ) → is_separator separator ≡ true
    → valid_bytes 0 (to_second p separator ++ rest) ≡ 19 + valid_bytes 19 rest
unfolding valid_bytes is_valid_at may_stand last_digits
valid-to_second p separator rest h = simp (digit_written, h) (omega arith)

valid-digits : (place : ℕ) (digits : List ℕ) → 20 ≤ place → list_all is_ascii_digit digits ≡ true → AreValid place digits
unfolding valid_bytes is_valid_at
valid-digits place [] low all = refl
valid-digits place (digit ∷ digits) low all =
    let both = and_parts (is_ascii_digit digit) (list_all is_ascii_digit digits) all in
    let more = valid-digits (place + 1) digits (omega (arith, low)) both.1 in
    let past : nat_lt place 19 ≡ false = grind (arith, nat_tests) in
    let not_point : nat_eq place 19 ≡ false = grind (arith, nat_tests) in
    rw (past, not_point, both.0) (ap suc more)

valid-fraction : (fraction : List ℕ) (nanosecond : ℕ) → IsFraction fraction nanosecond → AreValid 19 fraction
unfolding valid_bytes is_valid_at
valid-fraction fraction nanosecond (inl none) = rw none.0 refl
valid-fraction fraction nanosecond (inr some) = rw some.1 (ap suc (valid-digits 20 some.0 (omega arith) some.3))

pub valid-form : (text : List ℕ) (p : Parts) → LocalForm text p → AreValid 0 text
valid-form text p h =
    let whole = valid-to_second p h.separator h.fraction h.is_separator in
    let size : length (to_second p h.separator ++ h.fraction) ≡ 19 + length h.fraction =
    omega (arith, length-append (to_second p h.separator) h.fraction, length-to_second p h.separator) in
    ap (valid_bytes 0) h.spelled ∙ whole ∙ ap (λ (n : ℕ). 19 + n) (valid-fraction h.fraction p.nanosecond h.is_fraction)
    ∙ sym (ap (length {A = ℕ}) h.spelled ∙ size)

-- ---- valid bytes, in pieces

written_two : (a b : ℕ) → is_ascii_digit a ≡ true → is_ascii_digit b ≡ true
    → (a ∷ b ∷ [] ≡ last_digits 2 ((a - 48) * 10 + (b - 48))) × ((a - 48) * 10 + (b - 48) < 100)
unfolding last_digits
written_two a b s t = (grind (arith, nat_tests), grind (arith, nat_tests))

record TwoDigits (next : ℕ) (text : List ℕ) : Type 0 where
  number : ℕ
  rest : List ℕ
  spelled : text ≡ last_digits 2 number ++ rest
  fits : number < 100
  valid : AreValid next rest
  size : length text ≡ 2 + length rest

two : (place : ℕ) (text : List ℕ) → ((byte : ℕ) → is_valid_at place byte ≡ is_ascii_digit byte)
    → ((byte : ℕ) → is_valid_at (place + 1) byte ≡ is_ascii_digit byte) → 2 ≤ length text → AreValid place text → TwoDigits (place + 1 + 1) text
two place [] first second long e = absurd (omega (arith, long))
two place (a ∷ []) first second long e = absurd (omega (arith, long))
two place (a ∷ b ∷ text) first second long e =
    let s = valid_of place a (b ∷ text) e in
    let t = valid_of (place + 1) b text s.1 in
    let w = written_two a b (sym (first a) ∙ s.0) (sym (second b) ∙ t.0) in
    record {
      number = (a - 48) * 10 + (b - 48);
      rest = text;
      spelled = ap (λ (z : List ℕ). z ++ text) w.0;
      fits = w.1;
      valid = t.1;
      size = omega arith;
    }

record OneByte (next : ℕ) (text : List ℕ) (Holds : ℕ → Type 0) : Type 0 where
  byte : ℕ
  rest : List ℕ
  spelled : text ≡ byte ∷ rest
  is : Holds byte
  valid : AreValid next rest
  size : length text ≡ 1 + length rest

one : (place : ℕ) (text : List ℕ) → 1 ≤ length text → AreValid place text → OneByte (place + 1) text (λ byte. is_valid_at place byte ≡ true)
one place [] long e = absurd (omega (arith, long))
one place (a ∷ text) long e =
    let s = valid_of place a text e in record { byte = a; rest = text; spelled = refl; is = s.0; valid = s.1; size = omega arith }

record MarkThenTwo (next mark : ℕ) (text : List ℕ) : Type 0 where
  number : ℕ
  rest : List ℕ
  spelled : text ≡ mark ∷ last_digits 2 number ++ rest
  fits : number < 100
  valid : AreValid next rest
  size : length text ≡ 3 + length rest

mark_then_two : (place mark : ℕ) (text : List ℕ) → ((byte : ℕ) → is_valid_at place byte ≡ nat_eq byte mark)
    → ((byte : ℕ) → is_valid_at (place + 1) byte ≡ is_ascii_digit byte) → ((byte : ℕ) → is_valid_at (place + 1 + 1) byte ≡ is_ascii_digit byte)
    → 3 ≤ length text → AreValid place text → MarkThenTwo (place + 1 + 1 + 1) mark text
mark_then_two place mark text at first second long e =
    let m = one place text (omega (arith, long)) e in
    let is_mark = eqb-true m.byte mark (sym (at m.byte) ∙ m.is) in
    let d = two (place + 1) m.rest first second (omega (arith, long, m.size)) m.valid in
    record {
      number = d.number;
      rest = d.rest;
      spelled = m.spelled ∙ ap (λ (z : List ℕ). m.byte ∷ z) d.spelled ∙ ap (λ (b : ℕ). b ∷ last_digits 2 d.number ++ d.rest) is_mark;
      fits = d.fits;
      valid = d.valid;
      size = omega (arith, m.size, d.size);
    }

four : (century year : ℕ) → century < 100 → year < 100 → last_digits 4 (century * 100 + year) ≡ last_digits 2 century ++ last_digits 2 year
unfolding last_digits
four century year low high = grind (arith, nat_tests)

digit_at_or_past : (place byte : ℕ) → 20 ≤ place → is_valid_at place byte ≡ true → is_ascii_digit byte ≡ true
unfolding is_valid_at
digit_at_or_past place byte low e =
    let past : nat_lt place 19 ≡ false = grind (arith, nat_tests) in
    let not_point : nat_eq place 19 ≡ false = grind (arith, nat_tests) in
    rw (past, not_point) at e

all_digits : (place : ℕ) (text : List ℕ) → 20 ≤ place → AreValid place text → list_all is_ascii_digit text ≡ true
all_digits place [] low e = refl
all_digits place (byte ∷ text) low e =
    let s = valid_of place byte text e in rw (digit_at_or_past place byte low s.0) (all_digits (place + 1) text (omega (arith, low)) s.1)

fraction_of : (text : List ℕ) → AreValid 19 text → length text ≢ 1 → (nanosecond : ℕ) × IsFraction text nanosecond
unfolding is_valid_at
fraction_of [] e other = (0, inl (refl, refl))
fraction_of (byte ∷ text) e other =
    let s = valid_of 19 byte text e in
    let is_point : byte ≡ 46 = eqb-true byte 46 s.0 in (
      fraction_value 100_000_000 text,
      inr (text, ap (λ (b : ℕ). b ∷ text) is_point, omega (arith, other), all_digits 20 text (omega arith) s.1, refl),
    )

-- ---- valid bytes are the form, if none is missing

four_fit : (century year : ℕ) → century < 100 → year < 100 → century * 100 + year < 10_000
four_fit century year low high = omega (arith, low, high)

none_fits : 0 < 100
none_fits = omega arith

date_spelled : (text t1 t2 t3 t4 : List ℕ) (century year month day : ℕ) → century < 100 → year < 100 → text ≡ last_digits 2 century ++ t1
    → t1 ≡ last_digits 2 year ++ t2 → t2 ≡ 45 ∷ last_digits 2 month ++ t3 → t3 ≡ 45 ∷ last_digits 2 day ++ t4
    → text ≡ last_digits 4 (century * 100 + year) ++ codes "-" ++ last_digits 2 month ++ codes "-" ++ last_digits 2 day ++ t4
date_spelled text t1 t2 t3 t4 century year month day low high a b c d = rw (four century year low high, a, b, c, d) (simp append_assoc refl)

clock_spelled : (text t1 t2 t3 t4 : List ℕ) (separator hour minute second : ℕ) → text ≡ separator ∷ t1 → t1 ≡ last_digits 2 hour ++ t2
    → t2 ≡ 58 ∷ last_digits 2 minute ++ t3 → t3 ≡ 58 ∷ last_digits 2 second ++ t4
    → text ≡ separator ∷ last_digits 2 hour ++ codes ":" ++ last_digits 2 minute ++ codes ":" ++ last_digits 2 second ++ t4
clock_spelled text t1 t2 t3 t4 separator hour minute second a b c d = rw (a, b, c, d) (simp append_assoc refl)

record ValidDate (text : List ℕ) : Type 0 where
  year : ℕ
  month : ℕ
  day : ℕ
  rest : List ℕ
  spelled : text ≡ last_digits 4 year ++ codes "-" ++ last_digits 2 month ++ codes "-" ++ last_digits 2 day ++ rest
  year_fits : year < 10_000
  month_fits : month < 100
  day_fits : day < 100
  valid : AreValid 10 rest
  size : length text ≡ 10 + length rest

valid_date : (text : List ℕ) → AreValid 0 text → 10 ≤ length text → ValidDate text
unfolding is_valid_at may_stand
valid_date text e long =
    let century = two 0 text (λ byte. refl) (λ byte. refl) (omega (arith, long)) e in
    let year = two 2 century.rest (λ byte. refl) (λ byte. refl) (omega (arith, long, century.size)) century.valid in
    let month = mark_then_two 4 45 year.rest (λ byte. refl) (λ byte. refl) (λ byte. refl) (omega (arith, long, century.size, year.size)) year.valid in
    let day =
    mark_then_two 7 45 month.rest (λ byte. refl) (λ byte. refl) (λ byte. refl) (omega (arith, long, century.size, year.size, month.size)) month.valid in
    record {
      year = century.number * 100 + year.number;
      month = month.number;
      day = day.number;
      rest = day.rest;
      spelled =
          date_spelled text century.rest year.rest month.rest day.rest century.number year.number month.number day.number
          century.fits year.fits century.spelled year.spelled month.spelled day.spelled;
      year_fits = four_fit century.number year.number century.fits year.fits;
      month_fits = month.fits;
      day_fits = day.fits;
      valid = day.valid;
      size = omega (arith, century.size, year.size, month.size, day.size);
    }

record ValidClock (text : List ℕ) : Type 0 where
  separator : ℕ
  hour : ℕ
  minute : ℕ
  second : ℕ
  rest : List ℕ
  spelled : text ≡ separator ∷ last_digits 2 hour ++ codes ":" ++ last_digits 2 minute ++ codes ":" ++ last_digits 2 second ++ rest
  is_separator : IsTrue (is_separator separator)
  hour_fits : hour < 100
  minute_fits : minute < 100
  second_fits : second < 100
  valid : AreValid 19 rest
  size : length text ≡ 9 + length rest

valid_clock : (text : List ℕ) → AreValid 10 text → 9 ≤ length text → ValidClock text
unfolding is_valid_at may_stand
valid_clock text e long =
    let separator = one 10 text (omega (arith, long)) e in
    let hour = two 11 separator.rest (λ byte. refl) (λ byte. refl) (omega (arith, long, separator.size)) separator.valid in
    let minute =
    mark_then_two 13 58 hour.rest (λ byte. refl) (λ byte. refl) (λ byte. refl) (omega (arith, long, separator.size, hour.size)) hour.valid in
    let second =
    mark_then_two 16 58 minute.rest (λ byte. refl) (λ byte. refl) (λ byte. refl) (omega (arith, long, separator.size, hour.size, minute.size))
    minute.valid in
    record {
      separator = separator.byte;
      hour = hour.number;
      minute = minute.number;
      second = second.number;
      rest = second.rest;
      spelled =
          clock_spelled text separator.rest hour.rest minute.rest second.rest separator.byte hour.number minute.number
          second.number separator.spelled hour.spelled minute.spelled second.spelled;
      is_separator = separator.is;
      hour_fits = hour.fits;
      minute_fits = minute.fits;
      second_fits = second.fits;
      valid = second.valid;
      size = omega (arith, separator.size, hour.size, minute.size, second.size);
    }

whole_spelled : (text rest fraction : List ℕ) (p : Parts) (separator : ℕ)
    → text ≡ last_digits 4 p.year ++ codes "-" ++ last_digits 2 p.month ++ codes "-" ++ last_digits 2 p.day ++ rest
    → rest ≡ separator ∷ last_digits 2 p.hour ++ codes ":" ++ last_digits 2 p.minute ++ codes ":" ++ last_digits 2 p.second ++ fraction
    → text ≡ to_second p separator ++ fraction
whole_spelled text rest fraction p separator a b = rw (a, b) (simp append_assoc refl)

pub form_of : (text : List ℕ) → AreValid 0 text → 19 ≤ length text → length text ≢ 20 → (p : Parts) × LocalForm text p
form_of text e long other =
    let date = valid_date text e (omega (arith, long)) in
    let clock = valid_clock date.rest date.valid (omega (arith, long, date.size)) in
    let not_one : length clock.rest ≢ 1 = λ one. other (omega (arith, date.size, clock.size, one)) in
    let fraction = fraction_of clock.rest clock.valid not_one in
    let p = parts_read date.year date.month date.day clock.hour clock.minute clock.second fraction.0 (false, 0, 0) in (
      p,
      record {
        separator = clock.separator;
        fraction = clock.rest;
        spelled = whole_spelled text date.rest clock.rest p clock.separator date.spelled clock.spelled;
        is_separator = clock.is_separator;
        is_fraction = fraction.1;
        is_east = refl;
        no_hours = refl;
        no_minutes = refl;
        fits = record {
          year = date.year_fits;
          month = date.month_fits;
          day = date.day_fits;
          hour = clock.hour_fits;
          minute = clock.minute_fits;
          second = clock.second_fits;
          offset_hour = none_fits;
          offset_minute = none_fits;
        };
      },
    )

-- ---- valid bytes begin the form

-- the bytes that are missing
abbrev missing : ℕ → List ℕ
missing n = if nat_lt n 20 then drop n (codes "0000-00-00T00:00:00") else (if n == 20 then codes "0" else [])

abbrev are_all_below : ℕ → (ℕ → Bool) → Bool
are_all_below zero f = true
are_all_below (suc n) f = f n && are_all_below n f

one_of_all : (n : ℕ) (f : ℕ → Bool) (k : ℕ) → are_all_below n f ≡ true → k < n → f k ≡ true
one_of_all zero f k all low = absurd (omega (arith, low))
one_of_all (suc n) f k all low =
    let both = and_parts (f n) (are_all_below n f) all in
    elim (cases_Bool (nat_eq k n)) [
      | inl t ↦ rw (eqb-true k n t) both.0
      | inr t ↦ let lower : k < n = grind (arith, nat_tests) in one_of_all n f k both.1 lower
    ]

abbrev is_completed : ℕ → Bool
is_completed n = (valid_bytes n (missing n) == length (missing n)) && (n + length (missing n) == (if n == 20 then 21 else 19))

each_is_completed : are_all_below 21 is_completed ≡ true
unfolding valid_bytes is_valid_at may_stand
each_is_completed = refl

none_missing : (n : ℕ) → nat_lt n 21 ≡ false → AreValid n [] × (19 ≤ n + 0) × (n + 0 ≢ 20)
unfolding valid_bytes
none_missing n t = (refl, grind (arith, nat_tests), grind (arith, nat_tests))

-- the bytes that are missing are valid, and then none is missing
completed : (n : ℕ) → AreValid n (missing n) × (19 ≤ n + length (missing n)) × (n + length (missing n) ≢ 20)
completed n =
    elim (cases_Bool (nat_lt n 21)) [
      | inl t ↦
          let both = and_parts _ _ (one_of_all 21 is_completed n each_is_completed (grind (arith, nat_tests))) in
          (eqb-true _ _ both.0, grind (arith, nat_tests, both.1), grind (arith, nat_tests, both.1))
      | inr t ↦
          let past : nat_lt n 20 ≡ false = grind (arith, nat_tests) in
          let not_there : nat_eq n 20 ≡ false = grind (arith, nat_tests) in
          rw (past, not_there) (none_missing n t)
    ]

pub begins_some : (text : List ℕ) → (rest : List ℕ) × (p : Parts) × LocalForm (take (valid_bytes 0 text) text ++ rest) p
begins_some text =
    let front = take (valid_bytes 0 text) text in
    let rest = missing (length front) in
    let c = completed (length front) in
    let whole = valid-append 0 front rest (valid-before 0 text) (ap (λ (n : ℕ). valid_bytes n rest) (omega arith) ∙ c.0) in
    let size = length-append front rest in
    let form = form_of (front ++ rest) whole (omega (arith, size, c.1)) (λ same. c.2 (sym size ∙ same)) in (rest, form.0, form.1)

pub longest_of_form : (text : List ℕ) (n : ℕ) (rest : List ℕ) (p : Parts) → n ≤ length text → LocalForm (take n text ++ rest) p
    → n ≤ valid_bytes 0 text
longest_of_form text n rest p low h = valid-longest 0 text rest n low (valid-form (take n text ++ rest) p h)

-- ---- of a date-time, and of a time of day after a date

pub date_time_begins : (text : List ℕ) (n : ℕ) → n ≡ valid_bytes 0 text → (rest : List ℕ) × (p : Parts) × IsLocalDateTime (take n text ++ rest) p
date_time_begins text n e =
    let some = begins_some text in
    rw e (some.0, some.1, local_again (take (valid_bytes 0 text) text ++ some.0) some.1 some.2)

pub date_time_longest : (text : List ℕ) (m n : ℕ) (rest : List ℕ) (p : Parts) → m ≡ valid_bytes 0 text → n ≤ length text
    → IsLocalDateTime (take n text ++ rest) p → n ≤ m
date_time_longest text m n rest p e low h =
    omega (arith, e, longest_of_form text n rest p low (local_takes (take n text ++ rest) p h))

abbrev pub some_date : List ℕ
some_date = codes "1970-01-01T"

pub valid_after_date : (text : List ℕ) → valid_bytes 0 (some_date ++ text) ≡ 11 + valid_bytes 11 text
unfolding valid_bytes is_valid_at may_stand
valid_after_date text = omega arith

pub after_date : (text : List ℕ) (n : ℕ) → take (11 + n) (some_date ++ text) ≡ some_date ++ take n text
after_date text n = take-append-add some_date text n

time_pieces : (text rest : List ℕ) (n : ℕ) → (take (11 + n) (some_date ++ text) ++ rest) ++ codes "Z" ≡ some_date ++ (take n text ++ rest) ++ codes "Z"
time_pieces text rest n = rw (after_date text n) refl

pub time_begins : (text : List ℕ) (n : ℕ) → n ≡ valid_bytes 11 text → (rest : List ℕ) × (p : Parts) × IsLocalTime (take n text ++ rest) p
time_begins text n e =
    let some = date_time_begins (some_date ++ text) (11 + n) (ap (λ (k : ℕ). 11 + k) e ∙ sym (valid_after_date text)) in
    (some.0, some.1, subst (λ (t : List ℕ). IsDateTime t some.1) (time_pieces text some.0 n) some.2)

pub time_longest : (text : List ℕ) (m n : ℕ) (rest : List ℕ) (p : Parts) → m ≡ valid_bytes 11 text → n ≤ length text
    → IsLocalTime (take n text ++ rest) p → n ≤ m
time_longest text m n rest p e low h =
    let size : 11 + n ≤ length (some_date ++ text) = omega (arith, low, length-append some_date text) in
    let whole = subst (λ (t : List ℕ). IsDateTime t p) (sym (time_pieces text rest n)) h in
    omega (arith, date_time_longest (some_date ++ text) (11 + m) (11 + n) rest p (ap (λ (k : ℕ). 11 + k) e ∙ sym (valid_after_date text)) size whole)
