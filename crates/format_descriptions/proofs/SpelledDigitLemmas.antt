-- Digits that write a number: so many of them, or as many as there are.
use Rattle.std.proofs.Common.{◌≡◌, ◌∙◌, ℕ, zero, suc, ◌+◌, ◌-◌, ◌*◌, ◌/◌, ◌%◌, ◌^◌, ◌<◌, ◌≤◌, ◌⊎◌, inl, inr, true, false, List, [], ◌∷◌}
use Rattle.std.proofs.Common.{◌++◌, length}
use Rattle.std.proofs.Common.{Option, Some, None, refl, sym, ap, length-append, arith}
use Rattle.std.specs.Char.{is_ascii_digit, digit_value}
use Rattle.std.specs.List.{list_all}
use Rattle.std.specs.Prelude.{IsTrue}
use Rattle.std.specs.Str.Parse.{digits_value, digits_value_after}
use Rattle.std.proofs.lemmas.Bool.{and_parts, cases_Bool}
use Rattle.std.proofs.lemmas.Bool.Decides.{nat_tests}
use Rattle.std.proofs.lemmas.List.Folds.{list_all-append}
use Rattle.std.proofs.Math.Nat.{pow-succ', pow-zero}
use Rattle.std.proofs.lemmas.Int.Digits.{digits_value_push}
use Rattle.calendar_values.specs.Digits.{last_digits}
use Rattle.rfc3339.specs.FormLemmas.{bind_some}
use Rattle.rfc3339.specs.Reading.{digit_at}
use Rattle.format_descriptions.specs.Reading.{with_digit, digits_on, decimal_at}
use Rattle.format_descriptions.specs.SpelledPieces.{IsDecimal}

-- ---- one digit

pub digit-value : (c : ℕ) → is_ascii_digit c ≡ true → c - 48 ≡ digit_value c
digit-value c h = grind (arith, nat_tests)

pub digit-seen : (c : ℕ) (text : List ℕ) → is_ascii_digit c ≡ true → digit_at (c ∷ text) ≡ Some (digit_value c, text)
unfolding digit_at
digit-seen c text h = rw h (ap (λ (v : ℕ). Some (v, text)) (digit-value c h))

pub no_digit-seen : (c : ℕ) (text : List ℕ) → is_ascii_digit c ≡ false → digit_at (c ∷ text) ≡ None
unfolding digit_at
no_digit-seen c text h = rw h refl

-- a digit at the front
pub record Digit (text : List ℕ) (d : ℕ) (rest : List ℕ) : Type 0 where
  pub byte : ℕ
  pub front : text ≡ byte ∷ rest
  pub is : is_ascii_digit byte ≡ true
  pub value : d ≡ digit_value byte

pub digit-taken : (text : List ℕ) (d : ℕ) (rest : List ℕ) → digit_at text ≡ Some (d, rest) → Digit text d rest
unfolding digit_at
digit-taken [] d rest h = absurd cc
digit-taken (first ∷ text) d rest h = elim (cases_Bool (is_ascii_digit first)) [
  | inl t ↦
      let is : Some (first - 48, text) ≡ Some (d, rest) = rw t at h in
      let pair : (first - 48, text) ≡ (d, rest) = cc in
      record {
        byte = first;
        front = ap (λ (z : ℕ × List ℕ). first ∷ z.1) pair;
        is = t;
        value = sym (ap (λ (z : ℕ × List ℕ). z.0) pair) ∙ digit-value first t;
      }
  | inr f ↦ let is = rw f at h in absurd cc
]

-- ---- digits after those of a number

-- at most so many digits, which write n after those of k
pub record Follow (most k n : ℕ) (digits : List ℕ) : Type 0 where
  pub are : IsTrue (list_all is_ascii_digit digits)
  pub few : length digits ≤ most
  pub value : n ≡ digits_value_after 10 k digits

-- the digits of a number at the front, and those that follow
pub record Follows (most k n : ℕ) (text rest : List ℕ) : Type 0 where
  pub digits : List ℕ
  pub front : text ≡ digits ++ rest
  pub follow : Follow most k n digits

digits_on-step : (most k : ℕ) (text : List ℕ) (o : Option (ℕ × List ℕ)) (n : ℕ) (rest : List ℕ) → digit_at text ≡ o
    → ((m : ℕ) (t : List ℕ) → digits_on most (m, t) ≡ (n, rest) → Follows most m n t rest)
    → digits_on most (with_digit (k, text) o) ≡ (n, rest) → Follows (suc most) k n text rest
digits_on-step most k text None n rest e others h =
    let got = others k text h in
    record {
      digits = got.digits;
      front = got.front;
      follow = record { are = got.follow.are; few = omega (arith, got.follow.few); value = got.follow.value };
    }
digits_on-step most k text (Some r) n rest e others h =
    let d = digit-taken text r.0 r.1 e in
    let got = others (k * 10 + r.0) r.1 h in
    record {
      digits = d.byte ∷ got.digits;
      front = d.front ∙ ap (λ (z : List ℕ). d.byte ∷ z) got.front;
      follow = record {
        are = rw d.is got.follow.are;
        few = omega (arith, got.follow.few);
        value = got.follow.value ∙ ap (λ (v : ℕ). digits_value_after 10 (k * 10 + v) got.digits) d.value;
      };
    }

pub digits_on-taken : (most k : ℕ) (text : List ℕ) (n : ℕ) (rest : List ℕ) → digits_on most (k, text) ≡ (n, rest)
    → Follows most k n text rest
unfolding digits_on
digits_on-taken zero k text n rest h =
    record {
      digits = [];
      front = ap (λ (z : ℕ × List ℕ). z.1) h;
      follow = record { are = refl; few = omega arith; value = sym (ap (λ (z : ℕ × List ℕ). z.0) h) };
    }
digits_on-taken (suc most) k text n rest h =
    digits_on-step most k text (digit_at text) n rest refl (λ m t e. digits_on-taken most m t n rest e) h

-- no digit follows, or there is no place for one
abbrev pub Ends : ℕ → List ℕ → List ℕ → Type 0
Ends most digits rest = (digit_at rest ≡ None) ⊎ (length digits ≡ most)

fewer : (most c : ℕ) (digits rest : List ℕ) → Ends (suc most) (c ∷ digits) rest → Ends most digits rest
fewer most c digits rest (inl none) = inl none
fewer most c digits rest (inr full) = inr (omega (arith, full))

pub digits_on-again : (most k : ℕ) (digits rest : List ℕ) → list_all is_ascii_digit digits ≡ true → length digits ≤ most
    → Ends most digits rest
    → digits_on most (k, digits ++ rest) ≡ (digits_value_after 10 k digits, rest)
unfolding digits_on
digits_on-again zero k [] rest are few ends = refl
digits_on-again zero k (c ∷ digits) rest are few ends = absurd (omega (arith, few))
digits_on-again (suc most) k [] rest are few (inl none) = rw none (digits_on-again most k [] rest are (omega arith) (inl none))
digits_on-again (suc most) k [] rest are few (inr full) = absurd (omega (arith, full))
digits_on-again (suc most) k (c ∷ digits) rest are few ends =
    let both = and_parts (is_ascii_digit c) (list_all is_ascii_digit digits) are in
    rw (digit-seen c (digits ++ rest) both.0)
    (digits_on-again most (k * 10 + digit_value c) digits rest both.1 (omega (arith, few)) (fewer most c digits rest ends))

-- ---- so many digits at most

-- a piece at the front of a text
pub record Piece (Is : List ℕ → Type 0) (text rest : List ℕ) : Type 0 where
  pub piece : List ℕ
  pub front : text ≡ piece ++ rest
  pub is : Is piece

pub zero-before : (v : ℕ) → v ≡ 0 * 10 + v
zero-before v = omega arith

decimal-step : (most : ℕ) (text : List ℕ) (first : ℕ × List ℕ) (n : ℕ) (rest : List ℕ) → digit_at text ≡ Some first
    → digits_on most first ≡ (n, rest) → Piece (IsDecimal 1 (most + 1) n) text rest
decimal-step most text first n rest e h =
    let d = digit-taken text first.0 first.1 e in
    let got = digits_on-taken most first.0 first.1 n rest h in
    let begins : first.0 ≡ 0 * 10 + digit_value d.byte = d.value ∙ zero-before (digit_value d.byte) in
    record {
      piece = d.byte ∷ got.digits;
      front = d.front ∙ ap (λ (z : List ℕ). d.byte ∷ z) got.front;
      is = record {
        are = rw d.is got.follow.are;
        at_least = omega arith;
        at_most = omega (arith, got.follow.few);
        value = got.follow.value ∙ ap (λ (v : ℕ). digits_value_after 10 v got.digits) begins;
      };
    }

pub decimal-within : (a b c d n : ℕ) (piece : List ℕ) → c ≤ a → b ≤ d → IsDecimal a b n piece → IsDecimal c d n piece
decimal-within a b c d n piece low high is =
    record { are = is.are; at_least = omega (arith, low, is.at_least); at_most = omega (arith, high, is.at_most); value = is.value }

pub decimal_at-taken : (most : ℕ) (text : List ℕ) (n : ℕ) (rest : List ℕ) → 1 ≤ most → decimal_at most text ≡ Some (n, rest)
    → Piece (IsDecimal 1 most n) text rest
unfolding decimal_at
decimal_at-taken most text n rest some h =
    let first = bind_some _ _ _ h in
    let is : Some (digits_on (most - 1) first.0) ≡ Some (n, rest) = first.2 in
    let all : digits_on (most - 1) first.0 ≡ (n, rest) = cc in
    let got = decimal-step (most - 1) text first.0 n rest first.1 all in
    record {
      piece = got.piece;
      front = got.front;
      is = decimal-within 1 (most - 1 + 1) 1 most n got.piece (omega arith) (omega (arith, some)) got.is;
    }

ends_behind : (most c : ℕ) (digits rest : List ℕ) → Ends most (c ∷ digits) rest → Ends (most - 1) digits rest
ends_behind most c digits rest (inl none) = inl none
ends_behind most c digits rest (inr full) = inr (omega (arith, full))

pub decimal_at-again : (most n : ℕ) (piece rest : List ℕ) → IsDecimal 1 most n piece → Ends most piece rest
    → decimal_at most (piece ++ rest) ≡ Some (n, rest)
unfolding decimal_at
decimal_at-again most n [] rest is ends = absurd (omega (arith, is.at_least))
decimal_at-again most n (c ∷ digits) rest is ends =
    let both = and_parts (is_ascii_digit c) (list_all is_ascii_digit digits) is.are in
    let few : length digits ≤ most - 1 = omega (arith, is.at_most) in
    let value : digits_value_after 10 (digit_value c) digits ≡ n =
    ap (λ (v : ℕ). digits_value_after 10 v digits) (zero-before (digit_value c)) ∙ sym is.value
    in
    rw (
      digit-seen c (digits ++ rest) both.0,
      digits_on-again (most - 1) (digit_value c) digits rest both.1 few (ends_behind most c digits rest ends),
    ) (ap (λ (v : ℕ). Some (v, rest)) value)

-- ---- the last digits of a number

behind_48 : (d : ℕ) → 48 + d - 48 ≡ d
behind_48 d = omega arith

last-digit : (n : ℕ) → is_ascii_digit (48 + n % 10) ≡ true
last-digit n = grind (arith, nat_tests)

last-value : (n : ℕ) → digit_value (48 + n % 10) ≡ n % 10
last-value n = sym (digit-value (48 + n % 10) (last-digit n)) ∙ behind_48 (n % 10)

whole-value : (n v d : ℕ) → n / 10 ≡ v → d ≡ n % 10 → n ≡ v * 10 + d
whole-value n v d front last = omega (arith, front, last)

tenth-below : (count n : ℕ) → n < 10 ^ suc count → n / 10 < 10 ^ count
tenth-below count n low = let size = pow-succ' 10 count in omega (arith, low, size)

pub decimal-last_digits : (count n : ℕ) → n < 10 ^ count → IsDecimal count count n (last_digits count n)
unfolding last_digits
decimal-last_digits zero n low =
    let none : n ≡ 0 = omega (arith, low, pow-zero 10) in record { are = refl; at_least = omega arith; at_most = omega arith; value = none }
decimal-last_digits (suc count) n low =
    let front = decimal-last_digits count (n / 10) (tenth-below count n low) in
    let last = (48 + n % 10) ∷ [] in
    let whole = length-append (last_digits count (n / 10)) last in
    let test = last-digit n in
    record {
      are = rw (list_all-append is_ascii_digit (last_digits count (n / 10)) last, front.are, test) refl;
      at_least = omega (arith, whole, front.at_least);
      at_most = omega (arith, whole, front.at_most);
      value = whole-value n (digits_value 10 (last_digits count (n / 10))) (digit_value (48 + n % 10)) front.value (last-value n)
          ∙ sym (digits_value_push 10 (last_digits count (n / 10)) (48 + n % 10));
    }
