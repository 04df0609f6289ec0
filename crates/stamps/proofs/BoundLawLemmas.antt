-- The digits of the fraction of a date-time.
use Rattle.std.proofs.Common.{◌≡◌, refl, sym, ap, subst, ◌∙◌, inl, inr, ℕ, ◌+◌, ◌≤◌, Bool, true, false, cond, List, [], ◌∷◌, ◌++◌, drop, length, length-append}
use Rattle.std.proofs.Common.{append_assoc, arith}
use Rattle.std.specs.Char.{is_ascii_digit}
use Rattle.std.specs.List.{list_all, list_any, take_while}
use Rattle.std.specs.Prelude.{codes}
use Rattle.std.proofs.Math.Seq.{drop-append-add}
use Rattle.std.proofs.lemmas.Bool.{and_parts}
use Rattle.std.proofs.lemmas.List.{drop_all}
use Rattle.std.proofs.lemmas.List.Sums.{take_while-cons}
use Rattle.calendar_values.specs.DigitCountLemmas.{length-last_digits}
use Rattle.calendar_values.specs.Digits.{last_digits}
use Rattle.rfc3339.specs.Form.{IsDateTime, IsFraction, IsOffsetText, clock_digits, date_digits, spelling}
use Rattle.rfc3339.specs.declared.parts.Parts.{Parts}
use Rattle.stamps.specs.Arguments.{is_finer}
use Rattle.stamps.specs.BoundLaws.{is_not_zero}

-- ---- digits, and what follows them

stops : (xs : List ℕ) (c : ℕ) (more : List ℕ) → list_all is_ascii_digit xs ≡ true → is_ascii_digit c ≡ false
    → take_while is_ascii_digit (xs ++ c ∷ more) ≡ xs
stops [] c more all e = take_while-cons is_ascii_digit c more ∙ rw e refl
stops (x ∷ xs) c more all e =
    let both = and_parts (is_ascii_digit x) (list_all is_ascii_digit xs) all in
    take_while-cons is_ascii_digit x (xs ++ c ∷ more) ∙ rw both.0 (ap (λ (z : List ℕ). x ∷ z) (stops xs c more both.1 e))

shorter_if : (b : Bool) (x : ℕ) (ys xs : List ℕ) → length ys ≤ length xs → length (cond b (x ∷ ys) []) ≤ length (x ∷ xs)
shorter_if true x ys xs h = omega (arith, h)
shorter_if false x ys xs h = omega arith

shorter : (xs : List ℕ) → length (take_while is_ascii_digit xs) ≤ length xs
shorter [] = omega arith
shorter (x ∷ xs) = rw (take_while-cons is_ascii_digit x xs) (shorter_if (is_ascii_digit x) x (take_while is_ascii_digit xs) xs (shorter xs))

-- an offset begins with no digit, and has six bytes at most
record OffsetBytes (offset : List ℕ) : Type 0 where
  first : ℕ
  more : List ℕ
  are : offset ≡ first ∷ more
  no_digit : is_ascii_digit first ≡ false
  few : length more ≤ 5

numbers_few : (hour minute : ℕ) → length (last_digits 2 hour ++ codes ":" ++ last_digits 2 minute) ≤ 5
numbers_few hour minute = simp (length-append, length-last_digits) (omega arith)

offset_bytes : (offset : List ℕ) (is_west : Bool) (hour minute : ℕ) → IsOffsetText offset is_west hour minute → OffsetBytes offset
offset_bytes offset is_west hour minute (inl (inl upper, _, _, _)) =
    record { first = 90; more = []; are = upper; no_digit = refl; few = omega arith }
offset_bytes offset is_west hour minute (inl (inr lower, _, _, _)) =
    record { first = 122; more = []; are = lower; no_digit = refl; few = omega arith }
offset_bytes offset true hour minute (inr e) =
    record { first = 45; more = last_digits 2 hour ++ codes ":" ++ last_digits 2 minute; are = e; no_digit = refl; few = numbers_few hour minute }
offset_bytes offset false hour minute (inr e) =
    record { first = 43; more = last_digits 2 hour ++ codes ":" ++ last_digits 2 minute; are = e; no_digit = refl; few = numbers_few hour minute }

-- ---- the bytes before a fraction

before : Parts → ℕ → List ℕ
before p separator = date_digits p ++ (separator ∷ [] ++ clock_digits p)

length-before : (p : Parts) (separator : ℕ) → length (before p separator) ≡ 19
unfolding before
length-before p separator = simp (length-append, length-last_digits) refl

split : (p : Parts) (separator : ℕ) (fraction offset : List ℕ) → spelling p separator fraction offset ≡ before p separator ++ (fraction ++ offset)
unfolding before
split p separator fraction offset = simp append_assoc refl

-- what stands from byte 20 on
from_20 : (p : Parts) (separator : ℕ) (rest : List ℕ) → drop 20 (before p separator ++ rest) ≡ drop 1 rest
from_20 p separator rest =
    let place : 20 ≡ length (before p separator) + 1 = omega (arith, length-before p separator) in
    ap (λ (z : ℕ). drop z (before p separator ++ rest)) place ∙ drop-append-add (before p separator) rest 1

text_from_20 : (text : List ℕ) (p : Parts) (h : IsDateTime text p) (fraction : List ℕ) → h.fraction ≡ fraction
    → drop 20 text ≡ drop 1 (fraction ++ h.offset)
text_from_20 text p h fraction e =
    ap (drop 20) (h.spelled ∙ split p h.separator h.fraction h.offset) ∙ from_20 p h.separator (h.fraction ++ h.offset)
    ∙ ap (λ (z : List ℕ). drop 1 (z ++ h.offset)) e

finer_by : (text rest : List ℕ) → drop 20 text ≡ rest → is_finer text ≡ list_any is_not_zero (drop 9 (take_while is_ascii_digit rest))
unfolding is_finer
finer_by text rest e = ap (λ (z : List ℕ). list_any is_not_zero (drop 9 (take_while is_ascii_digit z))) e

-- ---- no fraction

none : (xs : List ℕ) → length xs ≤ 9 → list_any is_not_zero (drop 9 xs) ≡ false
none xs few = rw (drop_all 9 xs few) refl

pub whole : (text : List ℕ) (p : Parts) (h : IsDateTime text p) → h.fraction ≡ [] → is_finer text ≡ false
whole text p h e =
    let bytes = offset_bytes h.offset p.is_west p.offset_hour p.offset_minute h.is_offset in
    let rest : drop 20 text ≡ bytes.more = text_from_20 text p h [] e ∙ ap (drop 1) bytes.are in
    finer_by text bytes.more rest ∙ none (take_while is_ascii_digit bytes.more) (omega (arith, shorter bytes.more, bytes.few))

-- ---- a fraction

digits_of : (fraction digits : List ℕ) (nanosecond : ℕ) → fraction ≡ codes "." ++ digits → IsFraction fraction nanosecond
    → list_all is_ascii_digit digits ≡ true
digits_of fraction digits nanosecond e (inl (empty, zero_nanos)) = absurd cc
digits_of fraction digits nanosecond e (inr (others, are, _, all, _)) =
    let same : others ≡ digits = ap (drop 1) (sym are ∙ e) in subst (λ (z : List ℕ). list_all is_ascii_digit z ≡ true) same all

pub with_digits : (text : List ℕ) (p : Parts) (h : IsDateTime text p) (digits : List ℕ) → h.fraction ≡ codes "." ++ digits
    → is_finer text ≡ list_any is_not_zero (drop 9 digits)
with_digits text p h digits e =
    let bytes = offset_bytes h.offset p.is_west p.offset_hour p.offset_minute h.is_offset in
    let rest : drop 20 text ≡ digits ++ bytes.first ∷ bytes.more = text_from_20 text p h (codes "." ++ digits) e
    ∙ ap (λ (z : List ℕ). digits ++ z) bytes.are in
    finer_by text (digits ++ bytes.first ∷ bytes.more) rest
    ∙ ap (λ (z : List ℕ). list_any is_not_zero (drop 9 z))
    (stops digits bytes.first bytes.more (digits_of h.fraction digits p.nanosecond e h.is_fraction) bytes.no_digit)
