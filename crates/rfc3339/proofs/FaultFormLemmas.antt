-- The bytes that lead through all places to the end are those of the form.
use Rattle.std.proofs.Common.{◌≡◌, ◌≢◌, inl, inr, ℕ, ◌+◌, ◌-◌, ◌*◌, ◌/◌, ◌%◌, ◌≤◌, ◌<◌, Bool, true, false, nat_eq, List, [], ◌∷◌, ◌++◌, length, take}
use Rattle.std.proofs.Common.{append_assoc}
use Rattle.std.proofs.Common.{Option, Some, refl, sym, ap, subst, ◌∙◌, arith}
use Rattle.std.specs.Prelude.{◌==◌, ◌||◌, IsTrue, codes, if◌then◌else◌}
use Rattle.std.specs.Char.{is_ascii_digit}
use Rattle.std.specs.List.{list_all}
use Rattle.std.proofs.Math.Seq.{take-append-add}
use Rattle.std.proofs.lemmas.Bool.Decides.{nat_tests}
use Rattle.std.proofs.lemmas.Bool.{cases_Bool, and_parts}
use Rattle.calendar_values.specs.Digits.{last_digits}
use Rattle.rfc3339.specs.declared.parts.Parts.{Parts}
use Rattle.rfc3339.specs.Faults.{may_stand, place_in_offset, next_place, standing}
use Rattle.rfc3339.specs.Form.{is_separator, IsFraction, IsOffsetText, IsDateTime}
use Rattle.rfc3339.specs.Reading.{digit_at, two_digits_at, mark_at, part_at, year_at, separator_at, digits_at, fraction_at, zone_at}
use Rattle.rfc3339.specs.Reading.{parts_read, second_on, time_on, front_at, parts_at}
use Rattle.rfc3339.specs.FieldDigitLemmas.{digits_at-some, length-digit}
use Rattle.rfc3339.specs.TextLemmas.{parts_takes}
use Rattle.rfc3339.proofs.FaultLemmas.{place_after, place_after-next, place_after-nowhere, place_after-append, place_after-standing}
use Rattle.rfc3339.proofs.FaultLemmas.{standing-longest, place_after-to_end}
use Rattle.rfc3339.proofs.FaultLemmas.{place_after-at_most, bytes_to_end}

-- a digit leads from a place to the next, and nothing else does
abbrev WantsDigit : ℕ → Type 0
WantsDigit place = (byte : ℕ) → next_place place byte ≡ (if is_ascii_digit byte then place + 1 else 28)

-- and so this byte
abbrev WantsMark : ℕ → ℕ → Type 0
WantsMark place mark = (byte : ℕ) → next_place place byte ≡ (if nat_eq byte mark then place + 1 else 28)

-- ---- the form leads to the end

digit_written : (n : ℕ) → is_ascii_digit (48 + n % 10) ≡ true
digit_written n = grind (arith, nat_tests)

after_digit : (place n : ℕ) (text : List ℕ) → WantsDigit place → place_after place ((48 + n % 10) ∷ text) ≡ place_after (place + 1) text
unfolding place_after
after_digit place n text wants = rw (wants (48 + n % 10), digit_written n) refl

after_two : (place n : ℕ) (text : List ℕ) → WantsDigit place → WantsDigit (place + 1)
    → place_after place (last_digits 2 n ++ text) ≡ place_after (place + 2) text
unfolding last_digits
after_two place n text first second =
    after_digit place (n / 10) ((48 + n % 10) ∷ text) first ∙ after_digit (place + 1) n text second
    ∙ ap (λ (z : ℕ). place_after z text) (omega arith)

after_four : (n : ℕ) (text : List ℕ) → place_after 0 (last_digits 4 n ++ text) ≡ place_after 4 text
unfolding last_digits next_place may_stand
after_four n text =
    after_digit 0 (n / 10 / 10 / 10) _ (λ byte. refl) ∙ after_digit 1 (n / 10 / 10) _ (λ byte. refl) ∙ after_digit 2 (n / 10) _ (λ byte. refl)
    ∙ after_digit 3 n text (λ byte. refl)

after_part : (place mark n : ℕ) (text : List ℕ) → WantsMark place mark → WantsDigit (place + 1) → WantsDigit (place + 1 + 1)
    → place_after place (mark ∷ last_digits 2 n ++ text) ≡ place_after (place + 3) text
after_part place mark n text wants first second =
    let is_mark : nat_eq mark mark ≡ true = grind (arith, nat_tests) in
    let step : next_place place mark ≡ place + 1 = wants mark ∙ rw is_mark refl in
    place_after-next place mark (place + 1) _ step ∙ after_two (place + 1) n text first second ∙ ap (λ (z : ℕ). place_after z text) (omega arith)

after_numbers : (hour minute : ℕ) → place_after 22 (last_digits 2 hour ++ codes ":" ++ last_digits 2 minute) ≡ 27
unfolding next_place place_after last_digits
after_numbers hour minute =
    after_two 22 hour (58 ∷ last_digits 2 minute) (λ byte. refl) (λ byte. refl)
    ∙ after_part 24 58 minute [] (λ byte. refl) (λ byte. refl) (λ byte. refl)

-- an offset leads to the end, behind a second and behind a fraction
after_offset : (offset : List ℕ) (is_west : Bool) (hour minute : ℕ) → IsOffsetText offset is_west hour minute
    → (place_after 19 offset ≡ 27) × (place_after 21 offset ≡ 27)
unfolding place_after next_place may_stand place_in_offset
after_offset offset is_west hour minute (inl (inl z, w, h, m)) = rw z (refl, refl)
after_offset offset is_west hour minute (inl (inr z, w, h, m)) = rw z (refl, refl)
after_offset offset true hour minute (inr e) = rw e (after_numbers hour minute, after_numbers hour minute)
after_offset offset false hour minute (inr e) = rw e (after_numbers hour minute, after_numbers hour minute)

digit_of_fraction : (byte : ℕ) → is_ascii_digit byte ≡ true → next_place 21 byte ≡ 21
unfolding next_place
digit_of_fraction byte t = rw t refl

first_of_fraction : (byte : ℕ) → is_ascii_digit byte ≡ true → next_place 20 byte ≡ 21
unfolding next_place
first_of_fraction byte t = rw t refl

after_digits : (digits text : List ℕ) → list_all is_ascii_digit digits ≡ true → place_after 21 (digits ++ text) ≡ place_after 21 text
after_digits [] text all = refl
after_digits (first ∷ digits) text all =
    let both = and_parts (is_ascii_digit first) (list_all is_ascii_digit digits) all in
    place_after-next 21 first 21 (digits ++ text) (digit_of_fraction first both.0) ∙ after_digits digits text both.1

after_some_digits : (digits text : List ℕ) → 0 < length digits → list_all is_ascii_digit digits ≡ true
    → place_after 20 (digits ++ text) ≡ place_after 21 text
after_some_digits [] text some all = absurd (omega arith)
after_some_digits (first ∷ digits) text some all =
    let both = and_parts (is_ascii_digit first) (list_all is_ascii_digit digits) all in
    place_after-next 20 first 21 (digits ++ text) (first_of_fraction first both.0) ∙ after_digits digits text both.1

after_fraction : (fraction offset : List ℕ) (nanosecond : ℕ) → IsFraction fraction nanosecond → place_after 19 offset ≡ 27
    → place_after 21 offset ≡ 27 → place_after 19 (fraction ++ offset) ≡ 27
unfolding place_after next_place
after_fraction fraction offset nanosecond (inl none) whole broken = rw none.0 whole
after_fraction fraction offset nanosecond (inr some) whole broken =
    rw some.1 (after_some_digits some.0 offset some.2 some.3 ∙ broken)

after_separator : (separator : ℕ) (text : List ℕ) → IsTrue (is_separator separator) → place_after 10 (separator ∷ text) ≡ place_after 11 text
unfolding place_after next_place may_stand
after_separator separator text h = rw h refl

after_date : (p : Parts) (text : List ℕ)
    → place_after 0 (last_digits 4 p.year ++ codes "-" ++ last_digits 2 p.month ++ codes "-" ++ last_digits 2 p.day ++ text) ≡ place_after 10 text
unfolding next_place may_stand last_digits
after_date p text =
    after_four p.year _ ∙ after_part 4 45 p.month _ (λ byte. refl) (λ byte. refl) (λ byte. refl)
    ∙ after_part 7 45 p.day text (λ byte. refl) (λ byte. refl) (λ byte. refl)

after_clock : (p : Parts) (text : List ℕ)
    → place_after 11 (last_digits 2 p.hour ++ codes ":" ++ last_digits 2 p.minute ++ codes ":" ++ last_digits 2 p.second ++ text) ≡ place_after 19 text
unfolding next_place may_stand last_digits
after_clock p text =
    after_two 11 p.hour _ (λ byte. refl) (λ byte. refl) ∙ after_part 13 58 p.minute _ (λ byte. refl) (λ byte. refl) (λ byte. refl)
    ∙ after_part 16 58 p.second text (λ byte. refl) (λ byte. refl) (λ byte. refl)

pub form_to_end : (text : List ℕ) (p : Parts) → IsDateTime text p → place_after 0 text ≡ 27
unfolding last_digits
form_to_end text p h =
    let ends = after_offset h.offset p.is_west p.offset_hour p.offset_minute h.is_offset in
    let rest = after_fraction h.fraction h.offset p.nanosecond h.is_fraction ends.0 ends.1 in
    rw h.spelled (simp append_assoc (after_date p _ ∙ after_separator h.separator _ h.is_separator ∙ after_clock p _ ∙ rest))

-- ---- what leads to the end has the form

-- a digit, and what follows it
record DigitRead (place : ℕ) (text : List ℕ) : Type 0 where
  digit : ℕ
  rest : List ℕ
  read : digit_at text ≡ Some (digit, rest)
  goes_on : place_after (place + 1) rest ≡ 27

-- a place before the end is not the end
not_end : (place : ℕ) → nat_eq place 27 ≡ false → place ≢ 27
not_end place t e = grind (arith, nat_tests)

digit_read : (place : ℕ) (text : List ℕ) → WantsDigit place → nat_eq place 27 ≡ false → place_after place text ≡ 27 → DigitRead place text
unfolding place_after digit_at
digit_read place [] wants other e = absurd (not_end place other e)
digit_read place (byte ∷ text) wants other e =
    elim (cases_Bool (is_ascii_digit byte)) [
      | inl t ↦ record { digit = byte - 48; rest = text; read = rw t refl; goes_on = rw (wants byte, t) at e }
      | inr t ↦
          let lost : place_after 28 text ≡ 27 = rw (wants byte, t) at e in
          absurd (omega (arith, lost, place_after-nowhere text))
    ]

record TwoRead (place : ℕ) (text : List ℕ) : Type 0 where
  number : ℕ
  rest : List ℕ
  read : two_digits_at text ≡ Some (number, rest)
  goes_on : place_after (place + 1 + 1) rest ≡ 27

two_read : (place : ℕ) (text : List ℕ) → WantsDigit place → WantsDigit (place + 1) → nat_eq place 27 ≡ false → nat_eq (place + 1) 27 ≡ false
    → place_after place text ≡ 27 → TwoRead place text
unfolding two_digits_at
two_read place text first second other others e =
    let tens = digit_read place text first other e in
    let units = digit_read (place + 1) tens.rest second others tens.goes_on in
    record { number = tens.digit * 10 + units.digit; rest = units.rest; read = rw (tens.read, units.read) refl; goes_on = units.goes_on }

record MarkRead (place mark : ℕ) (text : List ℕ) : Type 0 where
  rest : List ℕ
  read : mark_at mark text ≡ Some rest
  goes_on : place_after (place + 1) rest ≡ 27

mark_read : (place mark : ℕ) (text : List ℕ) → WantsMark place mark → nat_eq place 27 ≡ false → place_after place text ≡ 27 → MarkRead place mark text
unfolding place_after mark_at
mark_read place mark [] wants other e = absurd (not_end place other e)
mark_read place mark (byte ∷ text) wants other e =
    elim (cases_Bool (nat_eq byte mark)) [
      | inl t ↦ record { rest = text; read = rw t refl; goes_on = rw (wants byte, t) at e }
      | inr t ↦
          let lost : place_after 28 text ≡ 27 = rw (wants byte, t) at e in
          absurd (omega (arith, lost, place_after-nowhere text))
    ]

record PartRead (place mark : ℕ) (text : List ℕ) : Type 0 where
  number : ℕ
  rest : List ℕ
  read : part_at mark text ≡ Some (number, rest)
  goes_on : place_after (place + 1 + 1 + 1) rest ≡ 27

part_read : (place mark : ℕ) (text : List ℕ) → WantsMark place mark → WantsDigit (place + 1) → WantsDigit (place + 1 + 1)
    → nat_eq place 27 ≡ false → nat_eq (place + 1) 27 ≡ false → nat_eq (place + 1 + 1) 27 ≡ false → place_after place text ≡ 27 → PartRead place mark text
unfolding part_at
part_read place mark text wants first second o1 o2 o3 e =
    let m = mark_read place mark text wants o1 e in
    let n = two_read (place + 1) m.rest first second o2 o3 m.goes_on in
    record { number = n.number; rest = n.rest; read = rw m.read n.read; goes_on = n.goes_on }

record SeparatorRead (text : List ℕ) : Type 0 where
  rest : List ℕ
  read : separator_at text ≡ Some rest
  goes_on : place_after 11 rest ≡ 27

separator_read : (text : List ℕ) → place_after 10 text ≡ 27 → SeparatorRead text
unfolding place_after next_place may_stand separator_at
separator_read [] e = absurd (omega (arith, e))
separator_read (byte ∷ text) e =
    elim (cases_Bool (is_separator byte)) [
      | inl t ↦ record { rest = text; read = rw t refl; goes_on = rw t at e }
      | inr t ↦
          let lost : place_after 28 text ≡ 27 = rw t at e in
          absurd (omega (arith, lost, place_after-nowhere text))
    ]

-- the end, behind which nothing may stand
ends : (text : List ℕ) → place_after 27 text ≡ 27 → text ≡ []
unfolding place_after next_place
ends [] e = refl
ends (byte ∷ text) e = absurd (omega (arith, e, place_after-nowhere text))

-- the place after an offset
unfoldable place_after_offset : List ℕ → ℕ
place_after_offset [] = 28
place_after_offset (byte ∷ text) = place_after (place_in_offset byte) text

record ZoneRead (text : List ℕ) : Type 0 where
  zone : Bool × ℕ × ℕ
  read : zone_at text ≡ Some (zone, [])

place_after_offset-none : place_after_offset [] ≡ 28
unfolding place_after_offset
place_after_offset-none = refl

-- what the place behind the first byte of an offset is
offset_leads : (byte next : ℕ) (text : List ℕ) → place_in_offset byte ≡ next → place_after_offset (byte ∷ text) ≡ 27 → place_after next text ≡ 27
unfolding place_after_offset
offset_leads byte next text step e = sym (ap (λ (z : ℕ). place_after z text) step) ∙ e

zone_of_letter : (byte : ℕ) → ((byte == 90) || (byte == 122)) ≡ true → place_in_offset byte ≡ 27
unfolding place_in_offset
zone_of_letter byte t = rw t refl

zone_of_sign : (byte : ℕ) → ((byte == 90) || (byte == 122)) ≡ false → ((byte == 43) || (byte == 45)) ≡ true → place_in_offset byte ≡ 22
unfolding place_in_offset
zone_of_sign byte t s = rw (t, s) refl

zone_of_none : (byte : ℕ) → ((byte == 90) || (byte == 122)) ≡ false → ((byte == 43) || (byte == 45)) ≡ false → place_in_offset byte ≡ 28
unfolding place_in_offset
zone_of_none byte t s = rw (t, s) refl

numbers_read : (text : List ℕ) → place_after 22 text ≡ 27 → (hour minute : ℕ) × (rest : List ℕ) × (two_digits_at text ≡ Some (hour, rest))
    × (part_at 58 rest ≡ Some (minute, []))
unfolding next_place
numbers_read text e =
    let hour = two_read 22 text (λ byte. refl) (λ byte. refl) refl refl e in
    let minute =
    part_read 24 58 hour.rest (λ byte. refl) (λ byte. refl) (λ byte. refl) refl refl refl hour.goes_on in
    let end : minute.rest ≡ [] = ends minute.rest minute.goes_on in
    (hour.number, minute.number, hour.rest, hour.read, minute.read ∙ ap (λ (z : List ℕ). Some (minute.number, z)) end)

zone_read : (text : List ℕ) → place_after_offset text ≡ 27 → ZoneRead text
unfolding zone_at
zone_read [] e = absurd (omega (arith, e, place_after_offset-none))
zone_read (byte ∷ text) e =
    elim (cases_Bool ((byte == 90) || (byte == 122))) [
      | inl t ↦
          let end : text ≡ [] = ends text (offset_leads byte 27 text (zone_of_letter byte t) e) in
          record { zone = (false, 0, 0); read = rw (t, end) refl }
      | inr t ↦ (
          elim (cases_Bool ((byte == 43) || (byte == 45))) [
            | inl s ↦
                let n = numbers_read text (offset_leads byte 22 text (zone_of_sign byte t s) e) in
                record { zone = (byte == 45, n.0, n.1); read = rw (t, s, n.3, n.4) refl }
            | inr s ↦
                let lost = offset_leads byte 28 text (zone_of_none byte t s) e in
                absurd (omega (arith, lost, place_after-nowhere text))
          ]
          )
    ]

length-digits_at : (unit : ℕ) (text : List ℕ) → length (digits_at unit text).1 ≤ length text
unfolding digits_at
length-digits_at unit [] = omega arith
length-digits_at unit (byte ∷ text) =
    elim (cases_Bool (is_ascii_digit byte)) [
      | inl t ↦ rw t (omega (arith, length-digits_at (unit / 10) text))
      | inr t ↦ rw t (omega arith)
    ]

-- digits, and then an offset
offset_behind : (unit : ℕ) (text : List ℕ) → place_after 21 text ≡ 27 → place_after_offset (digits_at unit text).1 ≡ 27
unfolding place_after place_after_offset next_place digits_at
offset_behind unit [] e = absurd (omega (arith, e))
offset_behind unit (byte ∷ text) e =
    elim (cases_Bool (is_ascii_digit byte)) [
      | inl t ↦ rw t (offset_behind (unit / 10) text (rw t at e))
      | inr t ↦ rw t (rw t at e)
    ]

record FractionRead (text : List ℕ) : Type 0 where
  nanosecond : ℕ
  rest : List ℕ
  read : fraction_at text ≡ Some (nanosecond, rest)
  goes_on : place_after_offset rest ≡ 27

fraction_read : (text : List ℕ) → place_after 19 text ≡ 27 → FractionRead text
unfolding place_after place_after_offset next_place fraction_at mark_at
fraction_read [] e = absurd (omega (arith, e))
fraction_read (byte ∷ text) e =
    elim (cases_Bool (nat_eq byte 46)) [
      | inl t ↦
          let digits : place_after 20 text ≡ 27 = rw t at e in
          let first = digit_read 20 text (λ byte. refl) refl digits in
          let all = digits_at-some 100_000_000 text first.digit first.rest first.read in
          let behind = offset_behind (100_000_000 / 10) first.rest first.goes_on in
          let shorter : nat_eq (length (digits_at 100_000_000 text).1) (length text) ≡ false =
          grind (arith, nat_tests, all, length-digits_at (100_000_000 / 10) first.rest, length-digit text first.digit first.rest first.read) in
          record {
            nanosecond = (digits_at 100_000_000 text).0;
            rest = (digits_at 100_000_000 text).1;
            read = rw (t, shorter) refl;
            goes_on = rw all behind;
          }
      | inr t ↦ record { nanosecond = 0; rest = byte ∷ text; read = rw t refl; goes_on = rw t at e }
    ]

-- the pieces that are read, one after another
year_of_pieces : (text t1 t2 : List ℕ) (century year : ℕ) → two_digits_at text ≡ Some (century, t1) → two_digits_at t1 ≡ Some (year, t2)
    → year_at text ≡ Some (century * 100 + year, t2)
unfolding year_at
year_of_pieces text t1 t2 century year e f = rw (e, f) refl

second_of_pieces : (year month day hour minute second nanosecond : ℕ) (zone : Bool × ℕ × ℕ) (text t1 t2 : List ℕ)
    → part_at 58 text ≡ Some (second, t1) → fraction_at t1 ≡ Some (nanosecond, t2) → zone_at t2 ≡ Some (zone, [])
    → second_on year month day hour minute text ≡ Some (parts_read year month day hour minute second nanosecond zone, [])
second_of_pieces year month day hour minute second nanosecond zone text t1 t2 e f g = rw (e, f, g) refl

time_of_pieces : (year month day hour minute : ℕ) (text t1 t2 t3 : List ℕ) (o : Option (Parts × List ℕ)) → separator_at text ≡ Some t1
    → two_digits_at t1 ≡ Some (hour, t2) → part_at 58 t2 ≡ Some (minute, t3) → second_on year month day hour minute t3 ≡ o
    → time_on year month day text ≡ o
time_of_pieces year month day hour minute text t1 t2 t3 o e f g h = rw (e, f, g) h

front_of_pieces : (text t1 t2 t3 : List ℕ) (year month day : ℕ) (o : Option (Parts × List ℕ)) → year_at text ≡ Some (year, t1)
    → part_at 45 t1 ≡ Some (month, t2) → part_at 45 t2 ≡ Some (day, t3) → time_on year month day t3 ≡ o → front_at text ≡ o
unfolding front_at
front_of_pieces text t1 t2 t3 year month day o e f g h = rw (e, f, g) h

parts_of_front : (text : List ℕ) (p : Parts) → front_at text ≡ Some (p, []) → parts_at text ≡ Some p
unfolding parts_at
parts_of_front text p e = rw e refl

-- the pieces of a text, some at a time: its year, what follows its minute, and what follows its date
record YearRead (text : List ℕ) : Type 0 where
  year : ℕ
  rest : List ℕ
  read : year_at text ≡ Some (year, rest)
  goes_on : place_after 4 rest ≡ 27

year_read : (text : List ℕ) → place_after 0 text ≡ 27 → YearRead text
unfolding next_place may_stand
year_read text e =
    let century = two_read 0 text (λ byte. refl) (λ byte. refl) refl refl e in
    let year = two_read 2 century.rest (λ byte. refl) (λ byte. refl) refl refl century.goes_on in
    record {
      year = century.number * 100 + year.number;
      rest = year.rest;
      read = year_of_pieces text century.rest year.rest century.number year.number century.read year.read;
      goes_on = year.goes_on;
    }

record SecondRead (text : List ℕ) : Type 0 where
  parts : (year month day hour minute : ℕ) → Parts
  read : (year month day hour minute : ℕ) → second_on year month day hour minute text ≡ Some (parts year month day hour minute, [])

second_read : (text : List ℕ) → place_after 16 text ≡ 27 → SecondRead text
unfolding next_place may_stand
second_read text e =
    let second = part_read 16 58 text (λ byte. refl) (λ byte. refl) (λ byte. refl) refl refl refl e in
    let fraction = fraction_read second.rest second.goes_on in
    let zone = zone_read fraction.rest fraction.goes_on in
    record {
      parts = λ year month day hour minute. parts_read year month day hour minute second.number fraction.nanosecond zone.zone;
      read = λ year month day hour minute. second_of_pieces year month day hour minute second.number fraction.nanosecond zone.zone text second.rest
          fraction.rest second.read fraction.read zone.read;
    }

record TimeRead (text : List ℕ) : Type 0 where
  parts : (year month day : ℕ) → Parts
  read : (year month day : ℕ) → time_on year month day text ≡ Some (parts year month day, [])

time_read : (text : List ℕ) → place_after 10 text ≡ 27 → TimeRead text
unfolding next_place may_stand
time_read text e =
    let clock = separator_read text e in
    let hour = two_read 11 clock.rest (λ byte. refl) (λ byte. refl) refl refl clock.goes_on in
    let minute = part_read 13 58 hour.rest (λ byte. refl) (λ byte. refl) (λ byte. refl) refl refl refl hour.goes_on in
    let second = second_read minute.rest minute.goes_on in
    record {
      parts = λ year month day. second.parts year month day hour.number minute.number;
      read = λ year month day. time_of_pieces year month day hour.number minute.number text clock.rest hour.rest minute.rest _ clock.read hour.read
          minute.read (second.read year month day hour.number minute.number);
    }

-- what leads to the end has the form
pub end_to_form : (text : List ℕ) → place_after 0 text ≡ 27 → (p : Parts) × IsDateTime text p
unfolding next_place may_stand
end_to_form text e =
    let year = year_read text e in
    let month = part_read 4 45 year.rest (λ byte. refl) (λ byte. refl) (λ byte. refl) refl refl refl year.goes_on in
    let day = part_read 7 45 month.rest (λ byte. refl) (λ byte. refl) (λ byte. refl) refl refl refl month.goes_on in
    let time = time_read day.rest day.goes_on in
    let whole = front_of_pieces text year.rest month.rest day.rest year.year month.number day.number _ year.read month.read day.read
    (time.read year.year month.number day.number) in
    (_, parts_takes text _ (parts_of_front text _ whole))

-- ---- the place of the fault

pub begins_some : (text : List ℕ) → (rest : List ℕ) × (p : Parts) × IsDateTime (take (standing 0 text) text ++ rest) p
begins_some text =
    let before = take (standing 0 text) text in
    let place = place_after 0 before in
    let stands : place ≢ 28 = place_after-standing 0 text (omega arith) in
    let low : place < 28 = omega (arith, place_after-at_most 0 before (omega arith), stands) in
    let rest = bytes_to_end place in
    let whole : place_after 0 (before ++ rest) ≡ 27 = place_after-append 0 before rest ∙ place_after-to_end place low in
    let form = end_to_form (before ++ rest) whole in (rest, form.0, form.1)

pub longest_of_form : (text : List ℕ) (n : ℕ) (rest : List ℕ) (p : Parts) → n ≤ length text → IsDateTime (take n text ++ rest) p
    → n ≤ standing 0 text
longest_of_form text n rest p low h =
    let whole = sym (place_after-append 0 (take n text) rest) ∙ form_to_end (take n text ++ rest) p h in
    let stands : place_after 0 (take n text) ≢ 28 =
    λ lost. omega (arith, sym (ap (λ (z : ℕ). place_after z rest) lost) ∙ whole, place_after-nowhere rest) in
    standing-longest 0 text n low stands

-- ---- the same of a time of day with an offset

abbrev some_date : List ℕ
some_date = codes "1970-01-01T"

standing_after_date : (text : List ℕ) → standing 0 (some_date ++ text) ≡ 11 + standing 11 text
unfolding standing next_place may_stand
standing_after_date text = omega arith

after_some_date : (text rest : List ℕ) (n : ℕ) → take (11 + n) (some_date ++ text) ++ rest ≡ some_date ++ take n text ++ rest
after_some_date text rest n = ap (λ (t : List ℕ). t ++ rest) (take-append-add some_date text n)

pub full_time_begins : (text : List ℕ) → (rest : List ℕ) × (p : Parts) × IsDateTime (some_date ++ take (standing 11 text) text ++ rest) p
full_time_begins text =
    let some = begins_some (some_date ++ text) in
    let whole = ap (λ (k : ℕ). take k (some_date ++ text) ++ some.0) (standing_after_date text) ∙ after_some_date text some.0 (standing 11 text) in
    (some.0, some.1, subst (λ (t : List ℕ). IsDateTime t some.1) whole some.2)

pub full_time_longest : (text : List ℕ) (n : ℕ) (rest : List ℕ) (p : Parts) → n ≤ length text → IsDateTime (some_date ++ take n text ++ rest) p
    → n ≤ standing 11 text
full_time_longest text n rest p low h =
    let whole = subst (λ (t : List ℕ). IsDateTime t p) (sym (after_some_date text rest n)) h in
    let most = longest_of_form (some_date ++ text) (11 + n) rest p (omega (arith, low)) whole in
    omega (arith, most, standing_after_date text)
