-- Digits past the ninth of a fraction add nothing.
use Rattle.std.proofs.Common.{◌≡◌, inl, inr, ℕ, zero, suc, ◌+◌, ◌-◌, ◌*◌, ◌/◌, ◌^◌, ◌<◌, ◌≤◌, true, false, List, [], ◌∷◌, ◌++◌, length, take, drop}
use Rattle.std.proofs.Common.{append_assoc, length-append, Option, Some, None, refl, sym, ap, ◌∙◌, arith}
use Rattle.std.specs.Prelude.{codes, IsTrue}
use Rattle.std.specs.Char.{is_ascii_digit}
use Rattle.std.specs.List.{list_all}
use Rattle.std.proofs.Math.Nat.{pow-succ'}
use Rattle.std.proofs.Math.Seq.{take-append-add, drop-append-add, take-append_seam}
use Rattle.std.proofs.lemmas.Bool.{and_parts}
use Rattle.std.proofs.lemmas.List.{take-append-drop, length-take-le}
use Rattle.std.proofs.lemmas.List.Folds.{list_all-append}
use Rattle.rfc3339.specs.declared.parts.Parts.{Parts}
use Rattle.rfc3339.specs.Form.{is_separator, fraction_value}
use Rattle.rfc3339.specs.Reading.{parts_at}
use Rattle.rfc3339.specs.TextLemmas.{parts_takes, parts_again}
use Rattle.local_texts.proofs.LocalFormLemmas.{to_second, LocalForm, local_takes, local_again, length-to_second}

-- ---- the digits

no_unit : (digits : List ℕ) → fraction_value 0 digits ≡ 0
unfolding fraction_value
no_unit [] = refl
no_unit (digit ∷ digits) = omega (arith, no_unit digits)

value-cut : (k unit : ℕ) (digits : List ℕ) → unit < 10 ^ k → fraction_value unit (take k digits) ≡ fraction_value unit digits
unfolding fraction_value
value-cut zero unit digits low =
    let none : unit ≡ 0 = omega (arith, low) in rw none (sym (no_unit digits))
value-cut (suc k) unit [] low = refl
value-cut (suc k) unit (digit ∷ digits) low =
    let fewer : unit / 10 < 10 ^ k = omega (arith, low, pow-succ' 10 k) in
    ap (λ (n : ℕ). (digit - 48) * unit + n) (value-cut k (unit / 10) digits fewer)

nine_digits : (digits : List ℕ) → fraction_value 100_000_000 (take 9 digits) ≡ fraction_value 100_000_000 digits
nine_digits digits = value-cut 9 100_000_000 digits (omega arith)

both_all : (first second : List ℕ) → list_all is_ascii_digit (first ++ second) ≡ true
    → (list_all is_ascii_digit first ≡ true) × (list_all is_ascii_digit second ≡ true)
both_all first second all =
    and_parts (list_all is_ascii_digit first) (list_all is_ascii_digit second) (sym (list_all-append is_ascii_digit first second) ∙ all)

-- ---- the text

-- the pieces of a text that is longer than its first nine digits of a fraction
record LongForm (text : List ℕ) (p : Parts) : Type 0 where
  separator : ℕ
  digits : List ℕ
  spelled : text ≡ to_second p separator ++ 46 ∷ digits
  is_separator : IsTrue (is_separator separator)
  are : list_all is_ascii_digit digits ≡ true
  value : p.nanosecond ≡ fraction_value 100_000_000 digits
  size : length text ≡ 20 + length digits

long_form : (text : List ℕ) (p : Parts) (h : LocalForm text p) → 20 ≤ length text → LongForm text p
long_form text p h long =
    let size : length text ≡ 19 + length h.fraction =
    omega (arith, ap (length {A = ℕ}) h.spelled, length-append (to_second p h.separator) h.fraction, length-to_second p h.separator) in
    elim h.is_fraction [
      | inl none ↦ absurd (omega (arith, long, size, ap (length {A = ℕ}) none.0))
      | inr some ↦ record {
        separator = h.separator;
        digits = some.0;
        spelled = h.spelled ∙ ap (λ (z : List ℕ). to_second p h.separator ++ z) some.1;
        is_separator = h.is_separator;
        are = some.3;
        value = some.4;
        size = omega (arith, size, ap (length {A = ℕ}) some.1);
      }
    ]

take_to_second : (p : Parts) (separator n : ℕ) (rest : List ℕ) → take (19 + n) (to_second p separator ++ rest) ≡ to_second p separator ++ take n rest
take_to_second p separator n rest =
    ap (λ (k : ℕ). take (k + n) (to_second p separator ++ rest)) (sym (length-to_second p separator))
    ∙ take-append-add (to_second p separator) rest n

drop_to_second : (p : Parts) (separator n : ℕ) (rest : List ℕ) → drop (19 + n) (to_second p separator ++ rest) ≡ drop n rest
drop_to_second p separator n rest =
    ap (λ (k : ℕ). drop (k + n) (to_second p separator ++ rest)) (sym (length-to_second p separator))
    ∙ drop-append-add (to_second p separator) rest n

-- a text that is cut after the ninth digit has the form, and the rest are digits
pub cut_takes : (text : List ℕ) (p : Parts) → 29 < length text → LocalForm text p
    → LocalForm (take 29 text) p × (list_all is_ascii_digit (drop 29 text) ≡ true)
cut_takes text p long h =
    let l = long_form text p h (omega (arith, long)) in
    let all = both_all (take 9 l.digits) (drop 9 l.digits) (ap (list_all is_ascii_digit) (take-append-drop 9 l.digits) ∙ l.are) in
    let nine : length (take 9 l.digits) ≡ 9 = length-take-le 9 l.digits (omega (arith, long, l.size)) in
    let front : take 29 text ≡ to_second p l.separator ++ 46 ∷ take 9 l.digits =
    ap (take 29) l.spelled ∙ take_to_second p l.separator 10 (46 ∷ l.digits) in
    let behind : drop 29 text ≡ drop 9 l.digits = ap (drop 29) l.spelled ∙ drop_to_second p l.separator 10 (46 ∷ l.digits) in (
      record {
        separator = l.separator;
        fraction = 46 ∷ take 9 l.digits;
        spelled = front;
        is_separator = l.is_separator;
        is_fraction = inr (take 9 l.digits, refl, omega (arith, nine), all.0, l.value ∙ sym (nine_digits l.digits));
        is_east = h.is_east;
        no_hours = h.no_hours;
        no_minutes = h.no_minutes;
        fits = h.fits;
      },
      ap (list_all is_ascii_digit) behind ∙ all.1,
    )

-- and with more digits it has the form too
pub cut_again : (text : List ℕ) (p : Parts) → 29 < length text → list_all is_ascii_digit (drop 29 text) ≡ true → LocalForm (take 29 text) p
    → LocalForm text p
cut_again text p long all h =
    let size : length (take 29 text) ≡ 29 = length-take-le 29 text (omega (arith, long)) in
    let l = long_form (take 29 text) p h (omega (arith, size)) in
    let digits = l.digits ++ drop 29 text in
    let nine : length l.digits ≡ 9 = omega (arith, size, l.size) in
    let value : fraction_value 100_000_000 l.digits ≡ fraction_value 100_000_000 digits =
    ap (fraction_value 100_000_000) (sym (ap (λ (n : ℕ). take n digits) (sym nine) ∙ take-append_seam l.digits (drop 29 text))) ∙ nine_digits digits in
    record {
      separator = l.separator;
      fraction = 46 ∷ digits;
      spelled =
          sym (take-append-drop 29 text) ∙ ap (λ (z : List ℕ). z ++ drop 29 text) l.spelled
          ∙ append_assoc (to_second p l.separator) (46 ∷ l.digits) (drop 29 text);
      is_separator = l.is_separator;
      is_fraction = inr (
        digits,
        refl,
        omega (arith, nine, length-append l.digits (drop 29 text)),
        list_all-append is_ascii_digit l.digits (drop 29 text) ∙ rw
            (l.are, all) refl,
        l.value ∙ value,
      );
      is_east = h.is_east;
      no_hours = h.no_hours;
      no_minutes = h.no_minutes;
      fits = h.fits;
    }

-- ---- the numbers that are read

pub not_some : {A : Type 0} (o : Option A) → ((x : A) → o ≡ Some x → ⊥) → o ≡ None
not_some None h = refl
not_some (Some x) h = absurd (h x refl)

-- digits past the ninth change no number
parts_of_cut : (text : List ℕ) (o : Option Parts) → 29 < length text → list_all is_ascii_digit (drop 29 text) ≡ true
    → parts_at (take 29 text ++ codes "Z") ≡ o → o ≡ parts_at (text ++ codes "Z")
parts_of_cut text (Some p) long all e =
    let form = cut_again text p long all (local_takes (take 29 text) p (parts_takes (take 29 text ++ codes "Z") p e)) in
    sym (parts_again (text ++ codes "Z") p (local_again text p form))
parts_of_cut text None long all e =
    let none : (p : Parts) → parts_at (text ++ codes "Z") ≡ Some p → ⊥ = λ p f. (
    let form = cut_takes text p long (local_takes text p (parts_takes (text ++ codes "Z") p f)) in
    let again = sym e ∙ parts_again (take 29 text ++ codes "Z") p (local_again (take 29 text) p form.0) in
    absurd cc
    ) in
    sym (not_some (parts_at (text ++ codes "Z")) none)

pub parts_at-cut : (text : List ℕ) → 29 < length text → list_all is_ascii_digit (drop 29 text) ≡ true
    → parts_at (take 29 text ++ codes "Z") ≡ parts_at (text ++ codes "Z")
parts_at-cut text long all = parts_of_cut text (parts_at (take 29 text ++ codes "Z")) long all refl

-- a longer text whose last bytes are not all digits has not the form
pub parts_at-other : (text : List ℕ) → 29 < length text → list_all is_ascii_digit (drop 29 text) ≡ false → parts_at (text ++ codes "Z") ≡ None
parts_at-other text long other =
    let none : (p : Parts) → parts_at (text ++ codes "Z") ≡ Some p → ⊥ = λ p f. (
    let form = cut_takes text p long (local_takes text p (parts_takes (text ++ codes "Z") p f)) in
    let both = sym other ∙ form.1 in
    absurd cc
    ) in
    not_some (parts_at (text ++ codes "Z")) none

-- ---- after a date

-- a date and a text, cut after the ninth digit
joined : (date text : List ℕ) (most : ℕ) → length date + most ≡ 29
    → (take 29 (date ++ text) ≡ date ++ take most text) × (drop 29 (date ++ text) ≡ drop most text)
joined date text most e = (
  ap (λ (n : ℕ). take n (date ++ text)) (sym e) ∙ take-append-add date text most,
  ap (λ (n : ℕ). drop n (date ++ text)) (sym e) ∙ drop-append-add date text most,
)

pub parts_at-joined_cut : (date text : List ℕ) (most : ℕ) → length date + most ≡ 29 → most < length text
    → list_all is_ascii_digit (drop most text) ≡ true → parts_at (date ++ take most text ++ codes "Z") ≡ parts_at (date ++ text ++ codes "Z")
parts_at-joined_cut date text most e long all =
    let j = joined date text most e in
    let size : 29 < length (date ++ text) = omega (arith, length-append date text) in
    ap (λ (z : List ℕ). parts_at (z ++ codes "Z")) (sym j.0) ∙ parts_at-cut (date ++ text) size (ap (list_all is_ascii_digit) j.1 ∙ all)

pub parts_at-joined_other : (date text : List ℕ) (most : ℕ) → length date + most ≡ 29 → most < length text
    → list_all is_ascii_digit (drop most text) ≡ false → parts_at (date ++ text ++ codes "Z") ≡ None
parts_at-joined_other date text most e long other =
    let j = joined date text most e in
    let size : 29 < length (date ++ text) = omega (arith, length-append date text) in
    parts_at-other (date ++ text) size (ap (list_all is_ascii_digit) j.1 ∙ other)
