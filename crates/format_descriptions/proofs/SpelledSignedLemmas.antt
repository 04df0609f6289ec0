-- Years, centuries, hours of an offset and Unix timestamps: those that are read are spelled, and those that are spelled are read.
use Rattle.std.proofs.Common.{◌≡◌, ◌∙◌, ℕ, ◌+◌, ◌-◌, ◌*◌, ◌/◌, ◌≤◌, inl, Bool, true, List, [], ◌∷◌, ◌++◌, length}
use Rattle.std.proofs.Common.{Option, Some, None, refl, sym, ap, arith}
use Rattle.std.specs.Char.{is_ascii_digit, digit_value}
use Rattle.std.specs.List.{list_all}
use Rattle.std.specs.Prelude.{IsTrue, not}
use Rattle.std.specs.Str.Parse.{digits_value}
use Rattle.std.proofs.lemmas.Bool.{and_parts}
use Rattle.rfc3339.specs.Form.{fraction_value}
use Rattle.rfc3339.specs.Reading.{◌>>=◌, digit_at}
use Rattle.format_descriptions.specs.Modifiers.{is_padded, is_extended}
use Rattle.format_descriptions.specs.Reading.{with_sign, sign_at, two_at, four_at, more_at, decimal_at, counted_at, six_at}
use Rattle.format_descriptions.specs.Reading.{year_after, century_after, hours_after, unix_after}
use Rattle.format_descriptions.specs.Reading.{signed_year_at, signed_century_at, signed_hours_at, unix_at}
use Rattle.format_descriptions.specs.SpelledPieces.{IsDecimal, IsSigned, more_digits}
use Rattle.format_descriptions.specs.declared.modifiers.Padding.{Padding}
use Rattle.format_descriptions.specs.declared.modifiers.Padding.TheVariants.{Zero, Bare}
use Rattle.format_descriptions.specs.declared.modifiers.Sign.{Sign}
use Rattle.format_descriptions.specs.declared.modifiers.Sign.TheVariants.{Automatic, Mandatory}
use Rattle.format_descriptions.specs.declared.modifiers.YearRange.{YearRange}
use Rattle.format_descriptions.proofs.SpelledDigitLemmas.{Piece, digit-value, decimal-within, decimal_at-taken, decimal_at-again}
use Rattle.format_descriptions.proofs.SpelledFractionLemmas.{counted_at-taken, counted_at-again}
use Rattle.format_descriptions.proofs.SpelledNumeralLemmas.{two_at-taken, two_at-again, four_at-taken, four_at-again}
use Rattle.format_descriptions.proofs.SpelledLongerLemmas.{longer-taken, longer-again}
use Rattle.format_descriptions.proofs.SpelledSignLemmas.{by_sign, signed-taken, signed-again}

-- ---- years and centuries

year_by_sign : (sign : Sign) (padding : Padding) (range : YearRange) (text : List ℕ) (o : Option (Bool × List ℕ))
    → year_after sign padding range text o
    ≡ by_sign sign (λ t. four_at padding t >>= λ four. more_at range four) (λ t. four_at padding t) text o
year_by_sign Automatic padding range text None = refl
year_by_sign Mandatory padding range text None = refl
year_by_sign Automatic padding range text (Some found) = refl
year_by_sign Mandatory padding range text (Some found) = refl

pub year-taken : (sign : Sign) (padding : Padding) (range : YearRange) (text : List ℕ) (n : Bool × ℕ) (rest : List ℕ)
    → signed_year_at sign padding range text ≡ Some (n, rest) → Piece (IsSigned sign padding 4 (more_digits range) n) text rest
unfolding signed_year_at
year-taken sign padding range text n rest h =
    signed-taken sign padding 4 (more_digits range) (λ t. four_at padding t >>= λ four. more_at range four) (λ t. four_at padding t) text
    (sign_at text) n rest
    (λ t m r e. longer-taken range padding 4 t (four_at padding t) m r (λ k s f. four_at-taken padding t k s f) e)
    (λ t m r e. four_at-taken padding t m r e) refl (sym (year_by_sign sign padding range text (sign_at text)) ∙ h)

pub year-again : (sign : Sign) (padding : Padding) (range : YearRange) (n : Bool × ℕ) (piece rest : List ℕ)
    → (IsTrue (not (is_padded padding)) → digit_at rest ≡ None) → (IsTrue (is_extended range) → digit_at rest ≡ None)
    → IsSigned sign padding 4 (more_digits range) n piece → signed_year_at sign padding range (piece ++ rest) ≡ Some (n, rest)
unfolding signed_year_at
year-again sign padding range n piece rest bare extended is =
    year_by_sign sign padding range (piece ++ rest) (sign_at (piece ++ rest))
    ∙ signed-again sign padding 4 (more_digits range) (λ t. four_at padding t >>= λ four. more_at range four) (λ t. four_at padding t)
    n piece rest
    (omega arith)
    (λ m number one. longer-again range padding 4 m number rest (λ t. four_at padding t) (omega arith)
    (λ k front t i ends. four_at-again padding k front t i ends) one bare extended)
    (λ m number one. four_at-again padding m number rest one (λ h. inl (bare h))) is

century_by_sign : (sign : Sign) (padding : Padding) (range : YearRange) (text : List ℕ) (o : Option (Bool × List ℕ))
    → century_after sign padding range text o
    ≡ by_sign sign (λ t. two_at padding t >>= λ two. more_at range two) (λ t. two_at padding t) text o
century_by_sign Automatic padding range text None = refl
century_by_sign Mandatory padding range text None = refl
century_by_sign Automatic padding range text (Some found) = refl
century_by_sign Mandatory padding range text (Some found) = refl

pub century-taken : (sign : Sign) (padding : Padding) (range : YearRange) (text : List ℕ) (n : Bool × ℕ) (rest : List ℕ)
    → signed_century_at sign padding range text ≡ Some (n, rest) → Piece (IsSigned sign padding 2 (more_digits range) n) text rest
unfolding signed_century_at
century-taken sign padding range text n rest h =
    signed-taken sign padding 2 (more_digits range) (λ t. two_at padding t >>= λ two. more_at range two) (λ t. two_at padding t) text
    (sign_at text) n rest
    (λ t m r e. longer-taken range padding 2 t (two_at padding t) m r (λ k s f. two_at-taken padding t k s f) e)
    (λ t m r e. two_at-taken padding t m r e) refl (sym (century_by_sign sign padding range text (sign_at text)) ∙ h)

pub century-again : (sign : Sign) (padding : Padding) (range : YearRange) (n : Bool × ℕ) (piece rest : List ℕ)
    → (IsTrue (not (is_padded padding)) → digit_at rest ≡ None) → (IsTrue (is_extended range) → digit_at rest ≡ None)
    → IsSigned sign padding 2 (more_digits range) n piece → signed_century_at sign padding range (piece ++ rest) ≡ Some (n, rest)
unfolding signed_century_at
century-again sign padding range n piece rest bare extended is =
    century_by_sign sign padding range (piece ++ rest) (sign_at (piece ++ rest))
    ∙ signed-again sign padding 2 (more_digits range) (λ t. two_at padding t >>= λ two. more_at range two) (λ t. two_at padding t)
    n piece rest
    (omega arith)
    (λ m number one. longer-again range padding 2 m number rest (λ t. two_at padding t) (omega arith)
    (λ k front t i ends. two_at-again padding k front t i ends) one bare extended)
    (λ m number one. two_at-again padding m number rest one (λ h. inl (bare h))) is

-- ---- the hours of an offset, and Unix timestamps

hours_by_sign : (sign : Sign) (padding : Padding) (text : List ℕ) (o : Option (Bool × List ℕ))
    → hours_after sign padding text o ≡ by_sign sign (λ t. two_at padding t) (λ t. two_at padding t) text o
hours_by_sign Automatic padding text None = refl
hours_by_sign Mandatory padding text None = refl
hours_by_sign Automatic padding text (Some found) = refl
hours_by_sign Mandatory padding text (Some found) = refl

pub hours-taken : (sign : Sign) (padding : Padding) (text : List ℕ) (n : Bool × ℕ) (rest : List ℕ)
    → signed_hours_at sign padding text ≡ Some (n, rest) → Piece (IsSigned sign padding 2 0 n) text rest
unfolding signed_hours_at
hours-taken sign padding text n rest h =
    signed-taken sign padding 2 0 (λ t. two_at padding t) (λ t. two_at padding t) text (sign_at text) n rest
    (λ t m r e. two_at-taken padding t m r e) (λ t m r e. two_at-taken padding t m r e) refl
    (sym (hours_by_sign sign padding text (sign_at text)) ∙ h)

pub hours-again : (sign : Sign) (padding : Padding) (n : Bool × ℕ) (piece rest : List ℕ)
    → (IsTrue (not (is_padded padding)) → digit_at rest ≡ None)
    → IsSigned sign padding 2 0 n piece → signed_hours_at sign padding (piece ++ rest) ≡ Some (n, rest)
unfolding signed_hours_at
hours-again sign padding n piece rest bare is =
    hours_by_sign sign padding (piece ++ rest) (sign_at (piece ++ rest))
    ∙ signed-again sign padding 2 0 (λ t. two_at padding t) (λ t. two_at padding t) n piece rest (omega arith)
    (λ m number one. two_at-again padding m number rest one (λ h. inl (bare h)))
    (λ m number one. two_at-again padding m number rest one (λ h. inl (bare h))) is

unix_by_sign : (sign : Sign) (most : ℕ) (text : List ℕ) (o : Option (Bool × List ℕ))
    → unix_after sign most text o ≡ by_sign sign (λ t. decimal_at most t) (λ t. decimal_at most t) text o
unix_by_sign Automatic most text None = refl
unix_by_sign Mandatory most text None = refl
unix_by_sign Automatic most text (Some found) = refl
unix_by_sign Mandatory most text (Some found) = refl

pub unix-taken : (sign : Sign) (most : ℕ) (text : List ℕ) (n : Bool × ℕ) (rest : List ℕ) → 1 ≤ most
    → unix_at sign most text ≡ Some (n, rest)
    → Piece (IsSigned sign Bare most 0 n) text rest
unfolding unix_at
unix-taken sign most text n rest some h =
    signed-taken sign Bare most 0 (λ t. decimal_at most t) (λ t. decimal_at most t) text (sign_at text) n rest
    (λ t m r e. let got = decimal_at-taken most t m r some e in record {
      piece = got.piece;
      front = got.front;
      is = decimal-within 1 most 1 (most + 0) m got.piece (omega arith) (omega arith) got.is;
    })
    (λ t m r e. decimal_at-taken most t m r some e) refl (sym (unix_by_sign sign most text (sign_at text)) ∙ h)

pub unix-again : (sign : Sign) (most : ℕ) (n : Bool × ℕ) (piece rest : List ℕ) → 1 ≤ most → digit_at rest ≡ None
    → IsSigned sign Bare most 0 n piece
    → unix_at sign most (piece ++ rest) ≡ Some (n, rest)
unfolding unix_at
unix-again sign most n piece rest some none is =
    unix_by_sign sign most (piece ++ rest) (sign_at (piece ++ rest))
    ∙ signed-again sign Bare most 0 (λ t. decimal_at most t) (λ t. decimal_at most t) n piece rest some
    (λ m number one. decimal_at-again most m number rest
    (decimal-within 1 (most + 0) 1 most m number (omega arith) (omega arith) one) (inl none))
    (λ m number one. decimal_at-again most m number rest one (inl none)) is

-- ---- six digits after a sign

six-weight : (a b c d e f p q r s t u : ℕ) → a ≡ p → b ≡ q → c ≡ r → d ≡ s → e ≡ t → f ≡ u
    → a * 100_000 + (b * (100_000 / 10) + (c * (100_000 / 10 / 10) + (d * (100_000 / 10 / 10 / 10) + (e * (100_000 / 10 / 10 / 10 / 10)
    + (f * (100_000 / 10 / 10 / 10 / 10 / 10) + 0)))))
    ≡ (((((0 * 10 + p) * 10 + q) * 10 + r) * 10 + s) * 10 + t) * 10 + u
six-weight a b c d e f p q r s t u ea eb ec ed ee ef = omega (arith, ea, eb, ec, ed, ee, ef)

six-value : (piece : List ℕ) → list_all is_ascii_digit piece ≡ true → length piece ≡ 6
    → fraction_value 100_000 piece ≡ digits_value 10 piece
unfolding fraction_value
six-value [] are size = absurd (omega (arith, size))
six-value (a ∷ []) are size = absurd (omega (arith, size))
six-value (a ∷ b ∷ []) are size = absurd (omega (arith, size))
six-value (a ∷ b ∷ c ∷ []) are size = absurd (omega (arith, size))
six-value (a ∷ b ∷ c ∷ d ∷ []) are size = absurd (omega (arith, size))
six-value (a ∷ b ∷ c ∷ d ∷ e ∷ []) are size = absurd (omega (arith, size))
six-value (a ∷ b ∷ c ∷ d ∷ e ∷ f ∷ []) are size =
    let h = and_parts (is_ascii_digit a) _ are in
    let i = and_parts (is_ascii_digit b) _ h.1 in
    let j = and_parts (is_ascii_digit c) _ i.1 in
    let k = and_parts (is_ascii_digit d) _ j.1 in
    let l = and_parts (is_ascii_digit e) _ k.1 in
    let m = and_parts (is_ascii_digit f) _ l.1 in
    six-weight (a - 48) (b - 48) (c - 48) (d - 48) (e - 48) (f - 48) (digit_value a) (digit_value b) (digit_value c) (digit_value d)
    (digit_value e) (digit_value f) (digit-value a h.0) (digit-value b i.0) (digit-value c j.0) (digit-value d k.0) (digit-value e l.0)
    (digit-value f m.0)
six-value (a ∷ b ∷ c ∷ d ∷ e ∷ f ∷ g ∷ piece) are size = absurd (omega (arith, size))

six_digits-taken : (text : List ℕ) (n : ℕ) (rest : List ℕ) → counted_at 6 100_000 text ≡ Some (n, rest) → Piece (IsDecimal 6 6 n) text rest
six_digits-taken text n rest h =
    let got = counted_at-taken 6 100_000 text n rest h in
    let size = got.is.size in
    record {
      piece = got.piece;
      front = got.front;
      is = record {
        are = got.is.are;
        at_least = omega (arith, size);
        at_most = omega (arith, size);
        value = got.is.value ∙ six-value got.piece got.is.are size;
      };
    }

six_digits-again : (n : ℕ) (piece rest : List ℕ) → IsDecimal 6 6 n piece → counted_at 6 100_000 (piece ++ rest) ≡ Some (n, rest)
six_digits-again n piece rest is =
    let size : length piece ≡ 6 = omega (arith, is.at_least, is.at_most) in
    counted_at-again 6 100_000 piece rest is.are size
    ∙ ap (λ (v : ℕ). Some (v, rest)) (six-value piece is.are size ∙ sym is.value)

six_by_sign : (text : List ℕ) (o : Option (Bool × List ℕ)) → (o >>= λ found. with_sign found.0 (counted_at 6 100_000 found.1))
    ≡ by_sign Mandatory (λ t. counted_at 6 100_000 t) (λ t. counted_at 6 100_000 t) text o
six_by_sign text None = refl
six_by_sign text (Some found) = refl

pub six-taken : (text : List ℕ) (n : Bool × ℕ) (rest : List ℕ) → six_at text ≡ Some (n, rest)
    → Piece (IsSigned Mandatory Zero 6 0 n) text rest
unfolding six_at
six-taken text n rest h =
    signed-taken Mandatory Zero 6 0 (λ t. counted_at 6 100_000 t) (λ t. counted_at 6 100_000 t) text (sign_at text) n rest
    (λ t m r e. six_digits-taken t m r e) (λ t m r e. six_digits-taken t m r e) refl (sym (six_by_sign text (sign_at text)) ∙ h)

pub six-again : (n : Bool × ℕ) (piece rest : List ℕ) → IsSigned Mandatory Zero 6 0 n piece → six_at (piece ++ rest) ≡ Some (n, rest)
unfolding six_at
six-again n piece rest is =
    six_by_sign (piece ++ rest) (sign_at (piece ++ rest))
    ∙ signed-again Mandatory Zero 6 0 (λ t. counted_at 6 100_000 t) (λ t. counted_at 6 100_000 t) n piece rest (omega arith)
    (λ m number one. six_digits-again m number rest one) (λ m number one. six_digits-again m number rest one) is
