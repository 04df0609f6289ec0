-- Numbers that may have more digits than their width: those that are read are spelled, and those that are spelled are read.
use Rattle.std.proofs.Common.{◌≡◌, ◌∙◌, ℕ, zero, suc, ◌+◌, ◌-◌, ◌≤◌, ◌⊎◌, inl, inr, true, List, [], ◌∷◌, ◌++◌, length, replicate}
use Rattle.std.proofs.Common.{Option, Some, None, refl, sym, ap, append_assoc, length-append, arith}
use Rattle.std.specs.Char.{is_ascii_digit}
use Rattle.std.specs.List.{list_all}
use Rattle.std.specs.Prelude.{IsTrue, not, ◌&&◌}
use Rattle.std.specs.Str.Parse.{digits_value, digits_value_after}
use Rattle.std.proofs.lemmas.Bool.{and_parts}
use Rattle.std.proofs.lemmas.List.Folds.{list_all-append}
use Rattle.rfc3339.specs.FormLemmas.{bind_some}
use Rattle.rfc3339.specs.Reading.{◌>>=◌, digit_at}
use Rattle.format_descriptions.specs.Modifiers.{is_padded, is_extended}
use Rattle.format_descriptions.specs.Reading.{with_digit, digits_on, more_at}
use Rattle.format_descriptions.specs.SpelledPieces.{IsDecimal, IsNumeral, more_digits}
use Rattle.format_descriptions.specs.declared.modifiers.Padding.{Padding}
use Rattle.format_descriptions.specs.declared.modifiers.Padding.TheVariants.{Zero, Space, Bare}
use Rattle.format_descriptions.specs.declared.modifiers.YearRange.{YearRange}
use Rattle.format_descriptions.specs.declared.modifiers.YearRange.TheVariants.{Standard, Extended}
use Rattle.format_descriptions.proofs.SpelledDigitLemmas.{Piece, Ends, Follow, decimal-within, digits_on-taken, digits_on-again}
use Rattle.format_descriptions.proofs.SpelledWidthLemmas.{digits_value-append}
use Rattle.format_descriptions.proofs.SpelledNumeralLemmas.{EndsBy, digit_more-on}

-- ---- a number and more digits are a longer number

decimal-join : (least most more k n : ℕ) (piece digits : List ℕ) → IsDecimal least most k piece → Follow more k n digits
    → IsDecimal least (most + more) n (piece ++ digits)
decimal-join least most more k n piece digits is follow =
    let whole = length-append piece digits in
    record {
      are = rw (list_all-append is_ascii_digit piece digits, is.are) follow.are;
      at_least = omega (arith, whole, is.at_least);
      at_most = omega (arith, whole, is.at_most, follow.few);
      value = follow.value ∙ ap (λ (v : ℕ). digits_value_after 10 v digits) is.value ∙ sym (digits_value-append 0 piece digits);
    }

numeral-join : (padding : Padding) (width more k n : ℕ) (piece digits : List ℕ) → IsNumeral padding width width k piece
    → Follow more k n digits
    → IsNumeral padding width (width + more) n (piece ++ digits)
numeral-join Zero width more k n piece digits is follow = decimal-join width width more k n piece digits is follow
numeral-join Bare width more k n piece digits is follow = decimal-join 1 width more k n piece digits is follow
numeral-join Space width more k n piece digits is follow = (
  is.0,
  is.1 ++ digits,
  is.2,
  ap (λ (z : List ℕ). z ++ digits) is.3 ∙ append_assoc (replicate is.0 32) is.1 digits,
  decimal-within (width - is.0) (width - is.0 + more) (width - is.0) (width + more - is.0) n (is.1 ++ digits) (omega arith)
      (omega (arith, is.2)) (decimal-join (width - is.0) (width - is.0) more k n is.1 digits is.4 follow),
)

-- ---- a longer number is a number and more digits

-- a list, parted behind so many elements
record Halves (most : ℕ) (whole : List ℕ) : Type 0 where
  front : List ℕ
  behind : List ℕ
  parts : whole ≡ front ++ behind
  few : length front ≤ most
  full : (behind ≡ []) ⊎ (length front ≡ most)

fuller : (most c : ℕ) (front behind : List ℕ) → (behind ≡ []) ⊎ (length front ≡ most) → (behind ≡ []) ⊎ (length (c ∷ front) ≡ suc most)
fuller most c front behind (inl none) = inl none
fuller most c front behind (inr full) = inr (omega (arith, full))

halves : (most : ℕ) (whole : List ℕ) → Halves most whole
halves zero whole = record { front = []; behind = whole; parts = refl; few = omega arith; full = inr refl }
halves (suc most) [] = record { front = []; behind = []; parts = refl; few = omega arith; full = inl refl }
halves (suc most) (c ∷ whole) =
    let others = halves most whole in
    record {
      front = c ∷ others.front;
      behind = others.behind;
      parts = ap (λ (z : List ℕ). c ∷ z) others.parts;
      few = omega (arith, others.few);
      full = fuller most c others.front others.behind others.full;
    }

front-size : (least most : ℕ) (front behind : List ℕ) → (behind ≡ []) ⊎ (length front ≡ most) → least ≤ most
    → least ≤ length (front ++ behind)
    → least ≤ length front
front-size least most front behind (inl none) low size =
    let empty : length behind ≡ 0 = ap (λ (z : List ℕ). length z) none in omega (arith, length-append front behind, empty, size)
front-size least most front behind (inr full) low size = omega (arith, full, low)

behind-size : (most more : ℕ) (front behind : List ℕ) → (behind ≡ []) ⊎ (length front ≡ most) → length (front ++ behind) ≤ most + more
    → length behind ≤ more
behind-size most more front behind (inl none) size =
    let empty : length behind ≡ 0 = ap (λ (z : List ℕ). length z) none in omega (arith, empty)
behind-size most more front behind (inr full) size = omega (arith, length-append front behind, full, size)

-- a number, and at most so many digits that follow it
record Split (Is : ℕ → List ℕ → Type 0) (width more n : ℕ) (piece : List ℕ) : Type 0 where
  k : ℕ
  front : List ℕ
  digits : List ℕ
  parts : piece ≡ front ++ digits
  number : Is k front
  follow : Follow more k n digits
  full : (digits ≡ []) ⊎ (length front ≡ width)

decimal-split : (least most more n : ℕ) (piece : List ℕ) → least ≤ most → IsDecimal least (most + more) n piece
    → Split (λ k front. IsDecimal least most k front) most more n piece
decimal-split least most more n piece low is =
    let h = halves most piece in
    let long : least ≤ length (h.front ++ h.behind) = rw (← h.parts) is.at_least in
    let short : length (h.front ++ h.behind) ≤ most + more = rw (← h.parts) is.at_most in
    let all : list_all is_ascii_digit h.front && list_all is_ascii_digit h.behind ≡ true =
    sym (list_all-append is_ascii_digit h.front h.behind) ∙ ap (λ (z : List ℕ). list_all is_ascii_digit z) (sym h.parts) ∙ is.are
    in
    let both = and_parts (list_all is_ascii_digit h.front) (list_all is_ascii_digit h.behind) all in
    record {
      k = digits_value 10 h.front;
      front = h.front;
      digits = h.behind;
      parts = h.parts;
      number = record { are = both.0; at_least = front-size least most h.front h.behind h.full low long; at_most = h.few; value = refl };
      follow = record {
        are = both.1;
        few = behind-size most more h.front h.behind h.full short;
        value = is.value ∙ ap (λ (z : List ℕ). digits_value 10 z) h.parts ∙ digits_value-append 0 h.front h.behind;
      };
      full = h.full;
    }

-- the same of a number by its padding
record Longer (padding : Padding) (width more n : ℕ) (piece : List ℕ) : Type 0 where
  k : ℕ
  front : List ℕ
  digits : List ℕ
  parts : piece ≡ front ++ digits
  number : IsNumeral padding width width k front
  follow : Follow more k n digits
  full : IsTrue (not (is_padded padding)) → (digits ≡ []) ⊎ (length front ≡ width)

longer : (padding : Padding) (width more n : ℕ) (piece : List ℕ) → 1 ≤ width → IsNumeral padding width (width + more) n piece
    → Longer padding width more n piece
longer Zero width more n piece some is =
    let s = decimal-split width width more n piece (omega arith) is in
    record { k = s.k; front = s.front; digits = s.digits; parts = s.parts; number = s.number; follow = s.follow; full = λ h. s.full }
longer Bare width more n piece some is =
    let s = decimal-split 1 width more n piece some is in
    record { k = s.k; front = s.front; digits = s.digits; parts = s.parts; number = s.number; follow = s.follow; full = λ h. s.full }
longer Space width more n piece some is =
    let size = width - is.0 in
    let within = decimal-within (width - is.0) (width + more - is.0) size (size + more) n is.1 (omega arith) (omega (arith, is.2)) is.4 in
    let s = decimal-split size size more n is.1 (omega arith) within in
    record {
      k = s.k;
      front = replicate is.0 32 ++ s.front;
      digits = s.digits;
      parts = is.3 ∙ ap (λ (z : List ℕ). replicate is.0 32 ++ z) s.parts ∙ sym (append_assoc (replicate is.0 32) s.front s.digits);
      number = (is.0, s.front, is.2, refl, s.number);
      follow = s.follow;
      full = λ h. absurd cc;
    }

-- ---- the digits of a year

more_on : (range : YearRange) (read : ℕ × List ℕ) → more_at range read ≡ Some (digits_on (more_digits range) read)
unfolding more_at digits_on
more_on Standard read = refl
more_on Extended read =
    let one = with_digit read (digit_at read.1) in rw (digit_more-on read (digit_at read.1)) (digit_more-on one (digit_at one.1))

pub longer-taken : (range : YearRange) (padding : Padding) (width : ℕ) (text : List ℕ) (o : Option (ℕ × List ℕ)) (n : ℕ) (rest : List ℕ)
    → ((k : ℕ) (t : List ℕ) → o ≡ Some (k, t) → Piece (IsNumeral padding width width k) text t)
    → (o >>= λ read. more_at range read) ≡ Some (n, rest)
    → Piece (IsNumeral padding width (width + more_digits range) n) text rest
longer-taken range padding width text o n rest taken h =
    let read = bind_some _ _ _ h in
    let front = taken read.0.0 read.0.1 read.1 in
    let all : Some (digits_on (more_digits range) read.0) ≡ Some (n, rest) = sym (more_on range read.0) ∙ read.2 in
    let pair : digits_on (more_digits range) read.0 ≡ (n, rest) = cc in
    let got = digits_on-taken (more_digits range) read.0.0 read.0.1 n rest pair in
    record {
      piece = front.piece ++ got.digits;
      front = front.front ∙ ap (λ (z : List ℕ). front.piece ++ z) got.front ∙ sym (append_assoc front.piece got.digits rest);
      is = numeral-join padding width (more_digits range) read.0.0 n front.piece got.digits front.is got.follow;
    }

more-ends : (range : YearRange) (digits rest : List ℕ) → length digits ≤ more_digits range
    → (IsTrue (is_extended range) → digit_at rest ≡ None)
    → Ends (more_digits range) digits rest
more-ends Standard digits rest few apart = inr (omega (arith, few))
more-ends Extended digits rest few apart = inl (apart refl)

front-ends : (width : ℕ) (front digits rest : List ℕ) → digit_at rest ≡ None → (digits ≡ []) ⊎ (length front ≡ width)
    → Ends width front (digits ++ rest)
front-ends width front digits rest none (inl empty) = inl (rw empty none)
front-ends width front digits rest none (inr full) = inr full

pub longer-again : (range : YearRange) (padding : Padding) (width n : ℕ) (piece rest : List ℕ) (at : List ℕ → Option (ℕ × List ℕ))
    → 1 ≤ width
    → ((k : ℕ) (front t : List ℕ) → IsNumeral padding width width k front → EndsBy padding width front t → at (front ++ t) ≡ Some (k, t))
    → IsNumeral padding width (width + more_digits range) n piece → (IsTrue (not (is_padded padding)) → digit_at rest ≡ None)
    → (IsTrue (is_extended range) → digit_at rest ≡ None) → (at (piece ++ rest) >>= λ read. more_at range read) ≡ Some (n, rest)
longer-again range padding width n piece rest at some again is bare extended =
    let s = longer padding width (more_digits range) n piece some is in
    let whole : piece ++ rest ≡ s.front ++ (s.digits ++ rest) =
    ap (λ (z : List ℕ). z ++ rest) s.parts ∙ append_assoc s.front s.digits rest
    in
    let first = again s.k s.front (s.digits ++ rest) s.number (λ h. front-ends width s.front s.digits rest (bare h) (s.full h)) in
    let ends = more-ends range s.digits rest s.follow.few extended in
    let others = digits_on-again (more_digits range) s.k s.digits rest s.follow.are s.follow.few ends in
    ap (λ (z : List ℕ). at z >>= λ read. more_at range read) whole
    ∙ ap (λ (o : Option (ℕ × List ℕ)). o >>= λ read. more_at range read) first
    ∙ more_on range (s.k, s.digits ++ rest) ∙ ap (λ (z : ℕ × List ℕ). Some z) others ∙ ap (λ (v : ℕ). Some (v, rest)) (sym s.follow.value)
