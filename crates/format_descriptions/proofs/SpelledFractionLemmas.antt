-- Digits of a fraction, and bytes that are left out: those that are read are spelled, and those that are spelled are read.
use Rattle.std.proofs.Common.{◌≡◌, ◌∙◌, ℕ, zero, suc, ◌+◌, ◌-◌, ◌*◌, ◌/◌, ◌<◌, ◌≤◌, true, false, List, [], ◌∷◌, ◌++◌, length, take, drop}
use Rattle.std.proofs.Common.{Option, Some, None, refl, sym, ap, nat_lt, nat_eq, inl, inr, length-append, arith}
use Rattle.std.specs.Char.{is_ascii_digit, digit_value}
use Rattle.std.specs.List.{list_all}
use Rattle.std.specs.Prelude.{IsTrue}
use Rattle.std.proofs.lemmas.Bool.{and_parts, cases_Bool}
use Rattle.std.proofs.lemmas.Bool.Decides.{nat_tests}
use Rattle.std.proofs.lemmas.List.{take-append-drop, length-take-le}
use Rattle.std.proofs.Math.Seq.{drop-append_seam}
use Rattle.rfc3339.specs.FieldDigitLemmas.{digits_at-some}
use Rattle.rfc3339.specs.Form.{fraction_value}
use Rattle.rfc3339.specs.FormLemmas.{bind_some}
use Rattle.rfc3339.specs.FractionLemmas.{digits_take}
use Rattle.rfc3339.specs.Reading.{digit_at, digits_at}
use Rattle.format_descriptions.specs.Reading.{counted_at, fraction_of, fraction_at, past_digits, ignored_at, weekday_numbered}
use Rattle.format_descriptions.specs.Reading.{weekday_number_at}
use Rattle.format_descriptions.specs.SpelledPieces.{IsSubsecond}
use Rattle.format_descriptions.specs.Written.{weekday_number_by}
use Rattle.format_descriptions.specs.declared.modifiers.WeekStart.{WeekStart}
use Rattle.format_descriptions.specs.declared.modifiers.WeekStart.TheVariants.{Sunday, Monday}
use Rattle.format_descriptions.specs.declared.modifiers.WeekdayCount.{WeekdayCount}
use Rattle.format_descriptions.specs.declared.modifiers.WeekdayCount.TheVariants.{FromZero, FromOne}
use Rattle.format_descriptions.proofs.NumberAgainLemmas.{digits_apart, first_seen}
use Rattle.format_descriptions.proofs.SpelledDigitLemmas.{Piece, digit-value, digit-taken, digit-seen}

-- ---- so many digits

-- so many digits, in a unit
pub record Counts (count unit n : ℕ) (piece : List ℕ) : Type 0 where
  pub are : IsTrue (list_all is_ascii_digit piece)
  pub size : length piece ≡ count
  pub value : n ≡ fraction_value unit piece

counted-step : (count unit : ℕ) (text : List ℕ) (digit more : ℕ × List ℕ) (n : ℕ) (rest : List ℕ) → digit_at text ≡ Some digit
    → digit.0 * unit + more.0 ≡ n → more.1 ≡ rest → Piece (Counts count (unit / 10) more.0) digit.1 more.1
    → Piece (Counts (suc count) unit n) text rest
unfolding fraction_value
counted-step count unit text digit more n rest e number behind others =
    let d = digit-taken text digit.0 digit.1 e in
    let first : digit.0 ≡ d.byte - 48 = d.value ∙ sym (digit-value d.byte d.is) in
    let whole : digit.0 * unit + more.0 ≡ (d.byte - 48) * unit + fraction_value (unit / 10) others.piece =
    ap (λ (v : ℕ). v * unit + more.0) first ∙ ap (λ (v : ℕ). (d.byte - 48) * unit + v) others.is.value
    in
    record {
      piece = d.byte ∷ others.piece;
      front = d.front ∙ ap (λ (z : List ℕ). d.byte ∷ z) (others.front ∙ ap (λ (z : List ℕ). others.piece ++ z) behind);
      is = record {
        are = rw d.is others.is.are;
        size = omega (arith, others.is.size);
        value = sym number ∙ whole;
      };
    }

pub counted_at-taken : (count unit : ℕ) (text : List ℕ) (n : ℕ) (rest : List ℕ) → counted_at count unit text ≡ Some (n, rest)
    → Piece (Counts count unit n) text rest
unfolding counted_at fraction_value
counted_at-taken zero unit text n rest h =
    let pair : (0, text) ≡ (n, rest) = cc in
    record {
      piece = [];
      front = ap (λ (z : ℕ × List ℕ). z.1) pair;
      is = record { are = refl; size = refl; value = sym (ap (λ (z : ℕ × List ℕ). z.0) pair) };
    }
counted_at-taken (suc count) unit text n rest h =
    let a = bind_some _ _ _ h in
    let b = bind_some _ _ _ a.2 in
    let is : Some (a.0.0 * unit + b.0.0, b.0.1) ≡ Some (n, rest) = b.2 in
    let pair : (a.0.0 * unit + b.0.0, b.0.1) ≡ (n, rest) = cc in
    counted-step count unit text a.0 b.0 n rest a.1 (ap (λ (z : ℕ × List ℕ). z.0) pair) (ap (λ (z : ℕ × List ℕ). z.1) pair)
    (counted_at-taken count (unit / 10) a.0.1 b.0.0 b.0.1 b.1)

pub counted_at-again : (count unit : ℕ) (piece rest : List ℕ) → list_all is_ascii_digit piece ≡ true → length piece ≡ count
    → counted_at count unit (piece ++ rest) ≡ Some (fraction_value unit piece, rest)
unfolding counted_at fraction_value
counted_at-again zero unit [] rest are size = refl
counted_at-again zero unit (c ∷ piece) rest are size = absurd (omega (arith, size))
counted_at-again (suc count) unit [] rest are size = absurd (omega (arith, size))
counted_at-again (suc count) unit (c ∷ piece) rest are size =
    let both = and_parts (is_ascii_digit c) (list_all is_ascii_digit piece) are in
    rw (
      digit-seen c (piece ++ rest) both.0,
      counted_at-again count (unit / 10) piece rest both.1 (omega (arith, size)),
    ) (ap (λ (v : ℕ). Some (v * unit + fraction_value (unit / 10) piece, rest)) (sym (digit-value c both.0)))

-- ---- all digits

-- one digit or more, in a unit
record All (unit n : ℕ) (piece : List ℕ) : Type 0 where
  are : IsTrue (list_all is_ascii_digit piece)
  size : 1 ≤ length piece
  value : n ≡ fraction_value unit piece

digits_at-taken : (unit : ℕ) (text : List ℕ) (digit : ℕ × List ℕ) → digit_at text ≡ Some digit
    → Piece (All unit (digits_at unit text).0) text (digits_at unit text).1
unfolding fraction_value
digits_at-taken unit text digit e =
    let d = digit-taken text digit.0 digit.1 e in
    let more = digits_take (unit / 10) digit.1 in
    let step = digits_at-some unit text digit.0 digit.1 e in
    let first : digit.0 ≡ d.byte - 48 = d.value ∙ sym (digit-value d.byte d.is) in
    let tail : (digits_at (unit / 10) digit.1).1 ≡ (digits_at unit text).1 = sym (ap (λ (z : ℕ × List ℕ). z.1) step) in
    record {
      piece = d.byte ∷ more.0;
      front = d.front ∙ ap (λ (z : List ℕ). d.byte ∷ z) (more.1.parts ∙ ap (λ (z : List ℕ). more.0 ++ z) tail);
      is = record {
        are = rw d.is more.1.are;
        size = omega arith;
        value = ap (λ (z : ℕ × List ℕ). z.0) step ∙ ap (λ (v : ℕ). v * unit + (digits_at (unit / 10) digit.1).0) first
            ∙ ap (λ (v : ℕ). (d.byte - 48) * unit + v) (sym more.1.counts);
      };
    }

fraction-on : (text : List ℕ) (o : Option (ℕ × List ℕ)) (n : ℕ) (rest : List ℕ) → digit_at text ≡ o → fraction_of text o ≡ Some (n, rest)
    → Piece (IsSubsecond 0 n) text rest
fraction-on text None n rest e h = absurd cc
fraction-on text (Some digit) n rest e h =
    let got = digits_at-taken 100_000_000 text digit e in
    let pair : digits_at 100_000_000 text ≡ (n, rest) = cc in
    record {
      piece = got.piece;
      front = got.front ∙ ap (λ (z : ℕ × List ℕ). got.piece ++ z.1) pair;
      is = record {
        are = got.is.are;
        size = got.is.size;
        value = sym (ap (λ (z : ℕ × List ℕ). z.0) pair) ∙ got.is.value;
      };
    }

some_count : (count : ℕ) → nat_eq (suc count) 0 ≡ false
some_count count = grind (arith, nat_tests)

pub fraction-taken : (count : ℕ) (text : List ℕ) (n : ℕ) (rest : List ℕ) → fraction_at count text ≡ Some (n, rest)
    → Piece (IsSubsecond count n) text rest
unfolding fraction_at
fraction-taken zero text n rest h = fraction-on text (digit_at text) n rest refl h
fraction-taken (suc count) text n rest h =
    let counted = rw (some_count count) at h in
    let got = counted_at-taken (suc count) 100_000_000 text n rest counted in
    record { piece = got.piece; front = got.front; is = record { are = got.is.are; size = got.is.size; value = got.is.value } }

pub fraction-again : (count n : ℕ) (piece rest : List ℕ) → (count ≡ 0 → digit_at rest ≡ None) → IsSubsecond count n piece
    → fraction_at count (piece ++ rest) ≡ Some (n, rest)
unfolding fraction_at
fraction-again zero n piece rest apart is =
    rw (first_seen piece rest is.size is.are, digits_apart 100_000_000 piece rest is.are (apart refl))
    (ap (λ (v : ℕ). Some (v, rest)) (sym is.value))
fraction-again (suc count) n piece rest apart is =
    rw (some_count count) (counted_at-again (suc count) 100_000_000 piece rest is.are is.size)
    ∙ ap (λ (v : ℕ). Some (v, rest)) (sym is.value)

-- ---- bytes and digits that are left out

-- one digit or more
abbrev pub AreDigits : List ℕ → Type 0
AreDigits piece = IsTrue (list_all is_ascii_digit piece) × (1 ≤ length piece)

pub past_digits-taken : (text rest : List ℕ) → past_digits text ≡ Some rest → Piece AreDigits text rest
unfolding past_digits
past_digits-taken text rest h =
    let first = bind_some _ _ _ h in
    let d = digit-taken text first.0.0 first.0.1 first.1 in
    let more = digits_take 0 first.0.1 in
    let is : Some (digits_at 0 first.0.1).1 ≡ Some rest = first.2 in
    let tail : (digits_at 0 first.0.1).1 ≡ rest = cc in
    record {
      piece = d.byte ∷ more.0;
      front = d.front ∙ ap (λ (z : List ℕ). d.byte ∷ z) (more.1.parts ∙ ap (λ (z : List ℕ). more.0 ++ z) tail);
      is = (rw d.is more.1.are, omega arith);
    }

pub past_digits-again : (piece rest : List ℕ) → digit_at rest ≡ None → AreDigits piece → past_digits (piece ++ rest) ≡ Some rest
unfolding past_digits
past_digits-again [] rest none is = absurd (omega (arith, is.1))
past_digits-again (c ∷ piece) rest none is =
    let both = and_parts (is_ascii_digit c) (list_all is_ascii_digit piece) is.0 in
    rw (digit-seen c (piece ++ rest) both.0, digits_apart 0 piece rest both.1 none) refl

pub ignored-taken : (count : ℕ) (text rest : List ℕ) → ignored_at count text ≡ Some rest → Piece (λ piece. length piece ≡ count) text rest
ignored-taken count text rest h = elim (cases_Bool (nat_lt (length text) count)) [
  | inl t ↦ let is = rw t at h in absurd cc
  | inr f ↦
      let enough : count ≤ length text = grind (arith, nat_tests, f) in
      let is : Some (drop count text) ≡ Some rest = rw f at h in
      let tail : drop count text ≡ rest = cc in
      record {
        piece = take count text;
        front = sym (take-append-drop count text) ∙ ap (λ (z : List ℕ). take count text ++ z) tail;
        is = length-take-le count text enough;
      }
]

pub ignored-again : (count : ℕ) (piece rest : List ℕ) → length piece ≡ count → ignored_at count (piece ++ rest) ≡ Some rest
ignored-again count piece rest size =
    let enough : nat_lt (length (piece ++ rest)) (length piece) ≡ false = grind (arith, nat_tests, length-append piece rest) in
    rw (← size, enough) (ap (λ (z : List ℕ). Some z) (drop-append_seam piece rest))

-- ---- the number of a day of the week

numbered-taken : (start : WeekStart) (count : WeekdayCount) (d : ℕ) (more : List ℕ) (n : ℕ) (rest : List ℕ)
    → weekday_numbered start count (d, more) ≡ Some (n, rest) → (n < 7) × (d ≡ weekday_number_by start count n) × (more ≡ rest)
unfolding weekday_number_by
numbered-taken Sunday FromZero d more n rest h = (grind (arith, nat_tests), grind (arith, nat_tests), grind (arith, nat_tests))
numbered-taken Sunday FromOne d more n rest h = (grind (arith, nat_tests), grind (arith, nat_tests), grind (arith, nat_tests))
numbered-taken Monday FromZero d more n rest h = (grind (arith, nat_tests), grind (arith, nat_tests), grind (arith, nat_tests))
numbered-taken Monday FromOne d more n rest h = (grind (arith, nat_tests), grind (arith, nat_tests), grind (arith, nat_tests))

-- the byte of a number
abbrev pub IsWeekdayNumber : WeekStart → WeekdayCount → ℕ → List ℕ → Type 0
IsWeekdayNumber start count n piece = (n < 7) × (piece ≡ (48 + weekday_number_by start count n) ∷ [])

digit-byte : (c : ℕ) → is_ascii_digit c ≡ true → c ≡ 48 + digit_value c
digit-byte c h = grind (arith, nat_tests)

pub weekday_number-taken : (start : WeekStart) (count : WeekdayCount) (text : List ℕ) (n : ℕ) (rest : List ℕ)
    → weekday_number_at start count text ≡ Some (n, rest) → Piece (IsWeekdayNumber start count n) text rest
unfolding weekday_number_at
weekday_number-taken start count text n rest h =
    let first = bind_some _ _ _ h in
    let d = digit-taken text first.0.0 first.0.1 first.1 in
    let is = numbered-taken start count first.0.0 first.0.1 n rest first.2 in
    let byte : d.byte ≡ 48 + weekday_number_by start count n =
    digit-byte d.byte d.is ∙ ap (λ (v : ℕ). 48 + v) (sym d.value ∙ is.1)
    in
    record {
      piece = d.byte ∷ [];
      front = d.front ∙ ap (λ (z : List ℕ). d.byte ∷ z) is.2;
      is = (is.0, ap (λ (c : ℕ). c ∷ []) byte);
    }
