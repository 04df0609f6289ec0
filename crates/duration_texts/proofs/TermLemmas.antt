-- A term that is read is one of the grammar, and the other way round.
use Rattle.std.proofs.Common.{◌≡◌, ◌⊎◌, inl, inr, refl, sym, ap, subst, ◌∙◌, ℕ, ◌≤◌, ◌<◌, ◌==◌, arith}
use Rattle.std.proofs.Common.{Bool, true, false, List, [], ◌∷◌, ◌++◌, append_assoc, length, Option, Some, None, Result, Ok, Err}
use Rattle.std.proofs.Common.{ℤ, pos, ◌+ℤ◌, neg_ℤ}
use Rattle.std.proofs.lemmas.Int.{ints}
use Rattle.std.specs.Prelude.{IsTrue, if◌then◌else◌}
use Rattle.std.specs.Char.{is_ascii_digit}
use Rattle.std.specs.List.{list_all}
use Rattle.std.specs.Result.{result_map_both}
use Rattle.std.proofs.lemmas.Bool.{cases_Bool, eqb-true}
use Rattle.std.proofs.lemmas.Bool.Decides.{nat_tests}
use Rattle.calendar_values.specs.Durations.{IsDuration, least_duration, greatest_duration}
use Rattle.calendar_values.specs.Range.{is_outside}
use Rattle.calendar_values.specs.SignedArith.{signed_arith}
use Rattle.duration_texts.specs.Grammar.{Sign, sign_text, is_negative}
use Rattle.duration_texts.specs.Grammar.Sign.{Unsigned, Plus, Minus}
use Rattle.duration_texts.specs.Numbers.{Number, IsNumber, HasNanoseconds, number_text, fraction_text, most_nanoseconds}
use Rattle.duration_texts.specs.Pieces.{front, past, blanks, is_blank, is_letter}
use Rattle.duration_texts.specs.Reading.{◌>>=◌, number_at, after_whole, with_fraction, sign_at, unit_at, named_unit, unit_found, sum_with}
use Rattle.duration_texts.specs.Reading.{duration_sum, with_sign}
use Rattle.duration_texts.specs.Reading.{nanoseconds_of, stop_at}
use Rattle.duration_texts.specs.Units.{unit_of, is_calendar_word}
use Rattle.duration_texts.specs.declared.faults.Stop.{Stop}
use Rattle.duration_texts.specs.declared.faults.DurationFault.{DurationFault}
use Rattle.duration_texts.proofs.FrontLemmas.{Stops, front-past, front-passes, front-append, past-append, blanks-past, past-blanks}
use Rattle.duration_texts.proofs.FrontLemmas.{stops-other, some_length, length-some}
use Rattle.duration_texts.proofs.NanosecondLemmas.{nanoseconds_of-ok, nanoseconds_of-again}

-- ---- two readings, one after the other

pub bind_ok : {A B : Type 0} (r : Result A Stop) (f : A → Result B Stop) (y : B) → (r >>= f) ≡ Ok y → (x : A) × (r ≡ Ok x) × (f x ≡ Ok y)
bind_ok (Ok x) f y e = (x, refl, e)
bind_ok (Err stop) f y e = absurd cc

pub chosen : {A : Type 0} (b : Bool) (x y z : A) → (if b then x else y) ≡ z → ((b ≡ true) × (x ≡ z)) ⊎ ((b ≡ false) × (y ≡ z))
chosen true x y z e = inl (refl, e)
chosen false x y z e = inr (refl, e)

pub ok_same : {A : Type 0} (x y : A) → ◌≡◌ {A = Result A Stop} (Ok x) (Ok y) → x ≡ y
ok_same x y e = cc

pub map_ok : {A B C D : Type 0} (f : A → C) (g : B → D) (r : Result A B) (y : C) → result_map_both f g r ≡ Ok y → (x : A) × (r ≡ Ok x) × (f x ≡ y)
map_ok f g (Ok x) y e = (x, refl, cc)
map_ok f g (Err stop) y e = absurd cc

-- ---- which bytes are which

pub digit-no_byte : (byte other : ℕ) → is_ascii_digit other ≡ false → is_ascii_digit byte ≡ true → (byte == other) ≡ false
digit-no_byte byte other no_digit digit =
    elim (cases_Bool (byte == other)) [
      | inl t ↦ let bad = rw (eqb-true byte other t) at digit in absurd cc
      | inr t ↦ t
    ]

pub letter-no_blank : (byte : ℕ) → is_letter byte ≡ true → is_blank byte ≡ false
letter-no_blank byte letter =
    elim (cases_Bool (byte == 32)) [
      | inl t ↦ let bad = rw (eqb-true byte 32 t) at letter in absurd cc
      | inr t ↦ t
    ]

pub digit-no_letter : (byte : ℕ) → is_ascii_digit byte ≡ true → is_letter byte ≡ false
digit-no_letter byte digit = grind (arith, nat_tests)

pub letter-no_digit : (byte : ℕ) → is_letter byte ≡ true → is_ascii_digit byte ≡ false
letter-no_digit byte letter = grind (arith, nat_tests)

pub letter-no_point : (byte : ℕ) → is_letter byte ≡ true → (byte == 46) ≡ false
letter-no_point byte letter =
    elim (cases_Bool (byte == 46)) [
      | inl t ↦ let bad = rw (eqb-true byte 46 t) at letter in absurd cc
      | inr t ↦ t
    ]

-- ---- numbers

fraction_text-some : (digits : List ℕ) → 0 < length digits → fraction_text digits ≡ 46 ∷ digits
fraction_text-some [] some = absurd (omega (arith, some))
fraction_text-some (digit ∷ digits) some = refl

-- what is read after the whole digits
abbrev IsAfter : List ℕ → List ℕ → Number × List ℕ → Type 0
IsAfter whole text read =
    (text ≡ fraction_text read.0.fraction ++ read.1) × (read.0.whole ≡ whole) × IsTrue (list_all is_ascii_digit read.0.fraction)

with_fraction-ok : (whole text : List ℕ) (read : Number × List ℕ) → with_fraction whole text ≡ Ok read → IsAfter whole (46 ∷ text) read
with_fraction-ok whole text read e =
    elim (chosen (length (front is_ascii_digit text) == 0) _ _ _ e) [
      | inl h ↦ absurd (let bad = h.1 in cc)
      | inr h ↦
          let some = some_length (front is_ascii_digit text) h.0 in
          let spelled : 46 ∷ text ≡ fraction_text (front is_ascii_digit text) ++ past is_ascii_digit text =
          rw (fraction_text-some (front is_ascii_digit text) some) (ap (λ (xs : List ℕ). 46 ∷ xs) (front-past is_ascii_digit text)) in
          subst (IsAfter whole (46 ∷ text)) (ok_same _ read h.1) (spelled, refl, front-passes is_ascii_digit text)
    ]

after_whole-ok : (whole text : List ℕ) (read : Number × List ℕ) → after_whole whole text ≡ Ok read → IsAfter whole text read
after_whole-ok whole [] read e = subst (IsAfter whole []) (ok_same _ read e) (refl, refl, refl)
after_whole-ok whole (byte ∷ bytes) read e =
    elim (chosen (byte == 46) _ _ _ e) [
      | inl h ↦
          let point : 46 ≡ byte = sym (eqb-true byte 46 h.0) in
          subst (λ (n : ℕ). IsAfter whole (n ∷ bytes) read) point (with_fraction-ok whole bytes read h.1)
      | inr h ↦ subst (IsAfter whole (byte ∷ bytes)) (ok_same _ read h.1) (refl, refl, refl)
    ]

pub number_at-ok : (text : List ℕ) (number : Number) (rest : List ℕ) → number_at text ≡ Ok (number, rest)
    → (text ≡ number_text number ++ rest) × IsNumber number
unfolding number_at
number_at-ok text number rest e =
    elim (chosen (length (front is_ascii_digit text) == 0) _ _ _ e) [
      | inl h ↦ absurd (let bad = h.1 in cc)
      | inr h ↦
          let after = after_whole-ok (front is_ascii_digit text) (past is_ascii_digit text) (number, rest) h.1 in
          let some = some_length (front is_ascii_digit text) h.0 in (
            front-past is_ascii_digit text
                ∙ ap (λ (xs : List ℕ). front is_ascii_digit text ++ xs) after.0
                ∙ sym (append_assoc (front is_ascii_digit text) (fraction_text number.fraction) rest)
                ∙ ap (λ (xs : List ℕ). (xs ++ fraction_text number.fraction) ++ rest) (sym after.1),
            record {
              some = rw after.1 some;
              whole = rw after.1 (front-passes is_ascii_digit text);
              fraction = after.2;
            },
          )
    ]

-- what follows a number: no digit, and no point
pub record Ends (rest : List ℕ) : Type 0 where
  pub digit : Stops is_ascii_digit rest
  pub point : Stops (λ byte. byte == 46) rest

after_whole-none : (whole rest : List ℕ) → Stops (λ byte. byte == 46) rest → after_whole whole rest ≡ Ok (record { whole = whole; fraction = [] }, rest)
after_whole-none whole [] h = refl
after_whole-none whole (byte ∷ bytes) h = rw h refl

after_whole-again : (whole fraction rest : List ℕ) → IsTrue (list_all is_ascii_digit fraction) → Ends rest
    → after_whole whole (fraction_text fraction ++ rest) ≡ Ok (record { whole = whole; fraction = fraction }, rest)
after_whole-again whole [] rest digits ends = after_whole-none whole rest ends.point
after_whole-again whole (digit ∷ more) rest digits ends =
    rw (front-append is_ascii_digit (digit ∷ more) rest digits ends.digit)
    (rw (past-append is_ascii_digit (digit ∷ more) rest digits ends.digit) (rw (length-some (digit ∷ more) (omega arith)) refl))

stops-fraction : (fraction rest : List ℕ) → Ends rest → Stops is_ascii_digit (fraction_text fraction ++ rest)
stops-fraction [] rest ends = ends.digit
stops-fraction (digit ∷ digits) rest ends = refl

pub number_at-again : (number : Number) (rest : List ℕ) → IsNumber number → Ends rest → number_at (number_text number ++ rest) ≡ Ok (number, rest)
unfolding number_at
number_at-again number rest h ends =
    let stops = stops-fraction number.fraction rest ends in
    rw (append_assoc number.whole (fraction_text number.fraction) rest)
    (rw (front-append is_ascii_digit number.whole (fraction_text number.fraction ++ rest) h.whole stops)
    (rw (past-append is_ascii_digit number.whole (fraction_text number.fraction ++ rest) h.whole stops)
    (rw (length-some number.whole h.some) (after_whole-again number.whole number.fraction rest h.fraction ends))))

-- ---- signs

pub sign_at-is : (before : Bool) (text : List ℕ) → (sign : Sign) × (text ≡ sign_text sign ++ (sign_at before text).1)
    × ((sign_at before text).0 ≡ is_negative before sign)
sign_at-is before [] = (Unsigned, refl, refl)
sign_at-is before (byte ∷ bytes) =
    elim (cases_Bool (byte == 45)) [
      | inl t ↦ rw t (Minus, ap (λ (n : ℕ). n ∷ bytes) (eqb-true byte 45 t), refl)
      | inr f ↦
          rw f (elim (cases_Bool (byte == 43)) [
            | inl t ↦ rw t (Plus, ap (λ (n : ℕ). n ∷ bytes) (eqb-true byte 43 t), refl)
            | inr t ↦ rw t (Unsigned, refl, refl)
          ])
    ]

-- a text that begins with no sign
pub record NoSign (text : List ℕ) : Type 0 where
  pub minus : Stops (λ byte. byte == 45) text
  pub plus : Stops (λ byte. byte == 43) text

no_sign-again : (before : Bool) (text : List ℕ) → NoSign text → sign_at before text ≡ (before, text)
no_sign-again before [] h = refl
no_sign-again before (byte ∷ bytes) h = rw h.minus (rw h.plus refl)

pub sign_at-again : (before : Bool) (sign : Sign) (text : List ℕ) → NoSign text → sign_at before (sign_text sign ++ text) ≡ (is_negative before sign, text)
sign_at-again before Unsigned text h = no_sign-again before text h
sign_at-again before Plus text h = refl
sign_at-again before Minus text h = refl

-- ---- units

unit_found-ok : (o : Option ℕ) (calendar : Bool) (text : List ℕ) (unit : ℕ) (rest : List ℕ) → unit_found o calendar text ≡ Ok (unit, rest)
    → (o ≡ Some unit) × (past is_letter text ≡ rest)
unit_found-ok (Some found) calendar text unit rest e =
    let same : (found, past is_letter text) ≡ (unit, rest) = ok_same _ _ e in
    (ap (λ (x : ℕ × List ℕ). Some x.0) same, ap (λ (x : ℕ × List ℕ). x.1) same)
unit_found-ok None true text unit rest e = absurd cc
unit_found-ok None false text unit rest e = absurd cc

pub unit_at-ok : (text : List ℕ) (unit : ℕ) (rest : List ℕ) → unit_at text ≡ Ok (unit, rest)
    → (between : ℕ) × (word : List ℕ) × (text ≡ blanks between ++ (word ++ rest)) × (0 < length word) × IsTrue (list_all is_letter word)
    × (unit_of word ≡ Some unit)
unfolding unit_at named_unit
unit_at-ok text unit rest e =
    let begun = past is_blank text in
    elim (chosen (length (front is_letter begun) == 0) _ _ _ e) [
      | inl h ↦ absurd (let bad = h.1 in cc)
      | inr h ↦
          let found = unit_found-ok (unit_of (front is_letter begun)) (is_calendar_word (front is_letter begun)) begun unit rest h.1 in (
            length (front is_blank text),
            front is_letter begun,
            blanks-past text
                ∙ ap (λ (xs : List ℕ). blanks (length (front is_blank text)) ++ xs)
                (front-past is_letter begun ∙ ap (λ (xs : List ℕ). front is_letter begun ++ xs) found.1),
            some_length (front is_letter begun) h.0,
            front-passes is_letter begun,
            found.0,
          )
    ]

pub unit_at-again : (between : ℕ) (word rest : List ℕ) (unit : ℕ) → 0 < length word → IsTrue (list_all is_letter word) → unit_of word ≡ Some unit
    → Stops is_letter rest → unit_at (blanks between ++ (word ++ rest)) ≡ Ok (unit, rest)
unfolding unit_at named_unit
unit_at-again between word rest unit some letters named stops =
    let begins = stops-other is_letter is_blank word rest letter-no_blank some letters in
    rw (past-blanks between (word ++ rest) begins)
    (rw (front-append is_letter word rest letters stops)
    (rw (length-some word some) (rw named (rw (past-append is_letter word rest letters stops) refl))))

-- ---- sums

inside : (sum : ℤ) → is_outside least_duration greatest_duration sum ≡ false → IsDuration sum
inside sum e = (grind (arith, signed_arith), grind (arith, signed_arith))

inside-test : (sum : ℤ) → IsDuration sum → is_outside least_duration greatest_duration sum ≡ false
inside-test sum h = let least = h.0 in let most = h.1 in grind (arith, signed_arith)

pub duration_sum-ok : (text : List ℕ) (sum total : ℤ) → duration_sum text sum ≡ Ok total → (total ≡ sum) × IsDuration total
duration_sum-ok text sum total e =
    elim (chosen (is_outside least_duration greatest_duration sum) _ _ _ e) [
      | inl h ↦ absurd (let bad = h.1 in cc)
      | inr h ↦
          let same = ok_same sum total h.1 in
          (sym same, subst (λ (z : ℤ). IsDuration z) same (inside sum h.0))
    ]

pub duration_sum-again : (text : List ℕ) (sum : ℤ) → IsDuration sum → duration_sum text sum ≡ Ok sum
duration_sum-again text sum h = rw (inside-test sum h) refl

pub sum_with-ok : (negative : Bool) (sum : ℤ) (unit : ℕ) (number : Number) (text : List ℕ) (total : ℤ) → sum_with negative sum unit number text ≡ Ok total
    → (n : ℕ) × HasNanoseconds unit number n × (total ≡ sum +ℤ with_sign negative n) × IsDuration total
unfolding sum_with
sum_with-ok negative sum unit number text total e =
    let parts = bind_ok (result_map_both (λ n. n) (λ fault. stop_at fault text) (nanoseconds_of unit number))
    (λ n. duration_sum text (sum +ℤ with_sign negative n)) total e in
    let read = map_ok (λ (n : ℕ). n) (λ (fault : DurationFault). stop_at fault text) (nanoseconds_of unit number) parts.0 parts.1 in
    let ends = duration_sum-ok text (sum +ℤ with_sign negative parts.0) total parts.2 in
    (parts.0, nanoseconds_of-ok unit parts.0 number (read.1 ∙ ap Ok read.2), ends.0, ends.1)

bounded-minus : (sum : ℤ) (n : ℕ) → IsDuration sum → IsDuration (sum +ℤ neg_ℤ (pos n)) → n ≤ most_nanoseconds
bounded-minus sum n before after = omega (arith, ints, before.0, before.1, after.0, after.1)

bounded-plus : (sum : ℤ) (n : ℕ) → IsDuration sum → IsDuration (sum +ℤ pos n) → n ≤ most_nanoseconds
bounded-plus sum n before after = omega (arith, ints, before.0, before.1, after.0, after.1)

bounded : (negative : Bool) (sum : ℤ) (n : ℕ) → IsDuration sum → IsDuration (sum +ℤ with_sign negative n) → n ≤ most_nanoseconds
bounded true sum n before after = bounded-minus sum n before after
bounded false sum n before after = bounded-plus sum n before after

pub sum_with-again : (negative : Bool) (sum : ℤ) (unit : ℕ) (number : Number) (text : List ℕ) (n : ℕ) → IsDuration sum → HasNanoseconds unit number n
    → IsDuration (sum +ℤ with_sign negative n) → sum_with negative sum unit number text ≡ Ok (sum +ℤ with_sign negative n)
unfolding sum_with
sum_with-again negative sum unit number text n before h after =
    rw (nanoseconds_of-again unit n number h (bounded negative sum n before after)) (duration_sum-again text (sum +ℤ with_sign negative n) after)
