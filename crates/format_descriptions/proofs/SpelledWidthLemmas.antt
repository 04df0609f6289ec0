-- One, two, three or four digits: those that are read are spelled, and those that are spelled are read.
use Rattle.std.proofs.Common.{◌≡◌, ◌∙◌, ℕ, ◌+◌, ◌*◌, true, List, [], ◌∷◌, ◌++◌, length}
use Rattle.std.proofs.Common.{Some, refl, sym, ap, append_assoc, length-append, arith}
use Rattle.std.specs.Char.{is_ascii_digit, digit_value}
use Rattle.std.specs.List.{list_all}
use Rattle.std.specs.Prelude.{◌&&◌}
use Rattle.std.specs.Str.Parse.{digits_value, digits_value_after}
use Rattle.std.proofs.lemmas.Bool.{and_parts}
use Rattle.std.proofs.lemmas.List.Folds.{list_all-append}
use Rattle.rfc3339.specs.FormLemmas.{bind_some}
use Rattle.rfc3339.specs.Reading.{digit_at, two_digits_at, year_at}
use Rattle.format_descriptions.specs.Reading.{three_digits_at}
use Rattle.format_descriptions.specs.SpelledPieces.{IsDecimal}
use Rattle.format_descriptions.proofs.SpelledDigitLemmas.{Piece, digit-seen, digit-taken, zero-before}

pub one_digit-taken : (text : List ℕ) (n : ℕ) (rest : List ℕ) → digit_at text ≡ Some (n, rest) → Piece (IsDecimal 1 1 n) text rest
one_digit-taken text n rest h =
    let d = digit-taken text n rest h in
    record {
      piece = d.byte ∷ [];
      front = d.front;
      is = record { are = rw d.is refl; at_least = omega arith; at_most = omega arith; value = d.value ∙ zero-before (digit_value d.byte) };
    }

pub one_digit-again : (n : ℕ) (piece rest : List ℕ) → IsDecimal 1 1 n piece → digit_at (piece ++ rest) ≡ Some (n, rest)
one_digit-again n [] rest is = absurd (omega (arith, is.at_least))
one_digit-again n (a ∷ []) rest is =
    let first = and_parts (is_ascii_digit a) true is.are in
    digit-seen a rest first.0 ∙ ap (λ (v : ℕ). Some (v, rest)) (zero-before (digit_value a) ∙ sym is.value)
one_digit-again n (a ∷ b ∷ piece) rest is = absurd (omega (arith, is.at_most))

pub digits_value-append : (k : ℕ) (front more : List ℕ) → digits_value_after 10 k (front ++ more)
    ≡ digits_value_after 10 (digits_value_after 10 k front) more
digits_value-append k [] more = refl
digits_value-append k (c ∷ front) more = digits_value-append (k * 10 + digit_value c) front more

two-number : (a b c d n : ℕ) → a ≡ c → b ≡ d → a * 10 + b ≡ n → n ≡ (0 * 10 + c) * 10 + d
two-number a b c d n ea eb e = omega (arith, ea, eb, e)

pub two_digits-taken : (text : List ℕ) (n : ℕ) (rest : List ℕ) → two_digits_at text ≡ Some (n, rest) → Piece (IsDecimal 2 2 n) text rest
unfolding two_digits_at
two_digits-taken text n rest h =
    let a = bind_some _ _ _ h in
    let b = bind_some _ _ _ a.2 in
    let c = digit-taken text a.0.0 a.0.1 a.1 in
    let d = digit-taken a.0.1 b.0.0 b.0.1 b.1 in
    let is : Some (a.0.0 * 10 + b.0.0, b.0.1) ≡ Some (n, rest) = b.2 in
    let pair : (a.0.0 * 10 + b.0.0, b.0.1) ≡ (n, rest) = cc in
    let number = ap (λ (z : ℕ × List ℕ). z.0) pair in
    record {
      piece = c.byte ∷ d.byte ∷ [];
      front = c.front ∙ ap (λ (z : List ℕ). c.byte ∷ z) (d.front ∙ ap (λ (z : ℕ × List ℕ). d.byte ∷ z.1) pair);
      is = record {
        are = rw (c.is, d.is) refl;
        at_least = omega arith;
        at_most = omega arith;
        value = two-number a.0.0 b.0.0 (digit_value c.byte) (digit_value d.byte) n c.value d.value number;
      };
    }

two-again : (a b n : ℕ) → n ≡ (0 * 10 + a) * 10 + b → a * 10 + b ≡ n
two-again a b n e = omega (arith, e)

pub two_digits-again : (n : ℕ) (piece rest : List ℕ) → IsDecimal 2 2 n piece → two_digits_at (piece ++ rest) ≡ Some (n, rest)
unfolding two_digits_at
two_digits-again n [] rest is = absurd (omega (arith, is.at_least))
two_digits-again n (a ∷ []) rest is = absurd (omega (arith, is.at_least))
two_digits-again n (a ∷ b ∷ []) rest is =
    let first = and_parts (is_ascii_digit a) (is_ascii_digit b && true) is.are in
    let second = and_parts (is_ascii_digit b) true first.1 in
    rw (digit-seen a (b ∷ rest) first.0, digit-seen b rest second.0)
    (ap (λ (v : ℕ). Some (v, rest)) (two-again (digit_value a) (digit_value b) n is.value))
two_digits-again n (a ∷ b ∷ c ∷ piece) rest is = absurd (omega (arith, is.at_most))

-- two digits after those of k
two-weight : (k a b : ℕ) → (k * 10 + a) * 10 + b ≡ k * 100 + ((0 * 10 + a) * 10 + b)
two-weight k a b = omega arith

two_digits-weigh : (k : ℕ) (piece : List ℕ) → length piece ≡ 2 → digits_value_after 10 k piece ≡ k * 100 + digits_value 10 piece
two_digits-weigh k [] two = absurd (omega (arith, two))
two_digits-weigh k (a ∷ []) two = absurd (omega (arith, two))
two_digits-weigh k (a ∷ b ∷ []) two = two-weight k (digit_value a) (digit_value b)
two_digits-weigh k (a ∷ b ∷ c ∷ piece) two = absurd (omega (arith, two))

-- a number before two digits
weighed : (k m v w n : ℕ) → k * 100 + m ≡ n → m ≡ v → w ≡ k * 100 + v → n ≡ w
weighed k m v w n e em ew = omega (arith, e, em, ew)

pub three_digits-taken : (text : List ℕ) (n : ℕ) (rest : List ℕ) → three_digits_at text ≡ Some (n, rest) → Piece (IsDecimal 3 3 n) text rest
unfolding three_digits_at
three_digits-taken text n rest h =
    let a = bind_some _ _ _ h in
    let b = bind_some _ _ _ a.2 in
    let first = digit-taken text a.0.0 a.0.1 a.1 in
    let two = two_digits-taken a.0.1 b.0.0 b.0.1 b.1 in
    let is : Some (a.0.0 * 100 + b.0.0, b.0.1) ≡ Some (n, rest) = b.2 in
    let pair : (a.0.0 * 100 + b.0.0, b.0.1) ≡ (n, rest) = cc in
    let number = ap (λ (z : ℕ × List ℕ). z.0) pair in
    let begins : a.0.0 ≡ 0 * 10 + digit_value first.byte = first.value ∙ zero-before (digit_value first.byte) in
    let size : length two.piece ≡ 2 = omega (arith, two.is.at_least, two.is.at_most) in
    let value : n ≡ digits_value_after 10 a.0.0 two.piece =
    weighed a.0.0 b.0.0 _ _ n number two.is.value (two_digits-weigh a.0.0 two.piece size)
    in
    record {
      piece = first.byte ∷ two.piece;
      front = first.front ∙ ap (λ (z : List ℕ). first.byte ∷ z) (two.front ∙ ap (λ (z : ℕ × List ℕ). two.piece ++ z.1) pair);
      is = record {
        are = rw first.is two.is.are;
        at_least = omega (arith, size);
        at_most = omega (arith, size);
        value = value ∙ ap (λ (v : ℕ). digits_value_after 10 v two.piece) begins;
      };
    }

-- the digits behind others
tail-decimal : (k n : ℕ) (piece : List ℕ) → list_all is_ascii_digit piece ≡ true → length piece ≡ 2 → n ≡ digits_value_after 10 k piece
    → IsDecimal 2 2 (digits_value 10 piece) piece × (k * 100 + digits_value 10 piece ≡ n)
tail-decimal k n piece are two value = (
  record { are = are; at_least = omega (arith, two); at_most = omega (arith, two); value = refl },
  sym (value ∙ two_digits-weigh k piece two),
)

pub three_digits-again : (n : ℕ) (piece rest : List ℕ) → IsDecimal 3 3 n piece → three_digits_at (piece ++ rest) ≡ Some (n, rest)
unfolding three_digits_at
three_digits-again n [] rest is = absurd (omega (arith, is.at_least))
three_digits-again n (a ∷ piece) rest is =
    let both = and_parts (is_ascii_digit a) (list_all is_ascii_digit piece) is.are in
    let size : length piece ≡ 2 = omega (arith, is.at_least, is.at_most) in
    let value : n ≡ digits_value_after 10 (digit_value a) piece =
    is.value ∙ ap (λ (v : ℕ). digits_value_after 10 v piece) (sym (zero-before (digit_value a)))
    in
    let two = tail-decimal (digit_value a) n piece both.1 size value in
    rw (digit-seen a (piece ++ rest) both.0, two_digits-again (digits_value 10 piece) piece rest two.0)
    (ap (λ (v : ℕ). Some (v, rest)) two.1)

pub four_digits-taken : (text : List ℕ) (n : ℕ) (rest : List ℕ) → year_at text ≡ Some (n, rest) → Piece (IsDecimal 4 4 n) text rest
unfolding year_at
four_digits-taken text n rest h =
    let a = bind_some _ _ _ h in
    let b = bind_some _ _ _ a.2 in
    let first = two_digits-taken text a.0.0 a.0.1 a.1 in
    let two = two_digits-taken a.0.1 b.0.0 b.0.1 b.1 in
    let is : Some (a.0.0 * 100 + b.0.0, b.0.1) ≡ Some (n, rest) = b.2 in
    let pair : (a.0.0 * 100 + b.0.0, b.0.1) ≡ (n, rest) = cc in
    let number = ap (λ (z : ℕ × List ℕ). z.0) pair in
    let size : length two.piece ≡ 2 = omega (arith, two.is.at_least, two.is.at_most) in
    let value : n ≡ digits_value_after 10 a.0.0 two.piece =
    weighed a.0.0 b.0.0 _ _ n number two.is.value (two_digits-weigh a.0.0 two.piece size)
    in
    let whole = length-append first.piece two.piece in
    record {
      piece = first.piece ++ two.piece;
      front = first.front ∙ ap (λ (z : List ℕ). first.piece ++ z) (two.front ∙ ap (λ (z : ℕ × List ℕ). two.piece ++ z.1) pair)
          ∙ sym (append_assoc first.piece two.piece rest);
      is = record {
        are = rw (list_all-append is_ascii_digit first.piece two.piece, first.is.are) two.is.are;
        at_least = omega (arith, whole, first.is.at_least, size);
        at_most = omega (arith, whole, first.is.at_most, size);
        value = value ∙ ap (λ (v : ℕ). digits_value_after 10 v two.piece) first.is.value
            ∙ sym (digits_value-append 0 first.piece two.piece);
      };
    }

pub four_digits-again : (n : ℕ) (piece rest : List ℕ) → IsDecimal 4 4 n piece → year_at (piece ++ rest) ≡ Some (n, rest)
unfolding year_at
four_digits-again n [] rest is = absurd (omega (arith, is.at_least))
four_digits-again n (a ∷ []) rest is = absurd (omega (arith, is.at_least))
four_digits-again n (a ∷ b ∷ piece) rest is =
    let first = and_parts (is_ascii_digit a) (is_ascii_digit b && list_all is_ascii_digit piece) is.are in
    let second = and_parts (is_ascii_digit b) (list_all is_ascii_digit piece) first.1 in
    let size : length piece ≡ 2 = omega (arith, is.at_least, is.at_most) in
    let century : ℕ = digits_value 10 (a ∷ b ∷ []) in
    let front : IsDecimal 2 2 century (a ∷ b ∷ []) =
    record { are = rw (first.0, second.0) refl; at_least = omega arith; at_most = omega arith; value = refl }
    in
    let two = tail-decimal century n piece second.1 size is.value in
    rw (
      two_digits-again century (a ∷ b ∷ []) (piece ++ rest) front,
      two_digits-again (digits_value 10 piece) piece rest two.0,
    ) (ap (λ (v : ℕ). Some (v, rest)) two.1)
