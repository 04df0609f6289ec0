-- Numbers with their padding: those that are read are spelled, and those that are spelled are read.
use Rattle.std.proofs.Common.{◌≡◌, ◌∙◌, ℕ, zero, suc, ◌-◌, ◌<◌, ◌≤◌, true, List, [], ◌∷◌, ◌++◌, replicate}
use Rattle.std.proofs.Common.{Option, Some, None, refl, sym, ap, arith}
use Rattle.std.specs.Char.{is_ascii_digit}
use Rattle.std.specs.List.{list_all}
use Rattle.std.specs.Prelude.{IsTrue, not}
use Rattle.std.proofs.lemmas.Bool.{and_parts}
use Rattle.std.proofs.lemmas.Bool.Decides.{nat_tests}
use Rattle.rfc3339.specs.FormLemmas.{mark_takes, mark_again}
use Rattle.rfc3339.specs.Reading.{◌>>=◌, digit_at, mark_at}
use Rattle.format_descriptions.specs.Modifiers.{is_padded}
use Rattle.format_descriptions.specs.Reading.{digit_more, with_digit, digits_on, decimal_at, two_at, three_at, four_at}
use Rattle.format_descriptions.specs.Reading.{spaced_two, spaced_three, spaced_four}
use Rattle.format_descriptions.specs.SpelledPieces.{IsDecimal, IsNumeral}
use Rattle.format_descriptions.specs.declared.modifiers.Padding.{Padding}
use Rattle.format_descriptions.specs.declared.modifiers.Padding.TheVariants.{Zero, Space, Bare}
use Rattle.format_descriptions.proofs.SpelledDigitLemmas.{Piece, Ends, decimal-within, decimal_at-taken, decimal_at-again}
use Rattle.format_descriptions.proofs.SpelledWidthLemmas.{one_digit-taken, one_digit-again, two_digits-taken, two_digits-again}
use Rattle.format_descriptions.proofs.SpelledWidthLemmas.{three_digits-taken, three_digits-again, four_digits-taken, four_digits-again}

-- ---- as many digits as there are, with no padding

pub digit_more-on : (read : ℕ × List ℕ) (o : Option (ℕ × List ℕ)) → digit_more read o ≡ Some (with_digit read o)
digit_more-on read None = refl
digit_more-on read (Some digit) = refl

two_on : (o : Option (ℕ × List ℕ)) → (o >>= λ first. digit_more first (digit_at first.1)) ≡ (o >>= λ digit. Some (digits_on 1 digit))
unfolding digits_on
two_on None = refl
two_on (Some first) = digit_more-on first (digit_at first.1)

three_on : (o : Option (ℕ × List ℕ)) → (o >>= λ first. Some (digits_on 1 first) >>= λ two. digit_more two (digit_at two.1))
    ≡ (o >>= λ digit. Some (digits_on 2 digit))
unfolding digits_on
three_on None = refl
three_on (Some first) =
    let two = with_digit first (digit_at first.1) in digit_more-on two (digit_at two.1)

four_on : (o : Option (ℕ × List ℕ)) → (o >>= λ first. Some (digits_on 2 first) >>= λ three. digit_more three (digit_at three.1))
    ≡ (o >>= λ digit. Some (digits_on 3 digit))
unfolding digits_on
four_on None = refl
four_on (Some first) =
    let two = with_digit first (digit_at first.1) in
    let three = with_digit two (digit_at two.1) in digit_more-on three (digit_at three.1)

bind-bind : {A B C : Type 0} (o : Option A) (f : A → Option B) (g : B → Option C) → ((o >>= f) >>= g) ≡ (o >>= λ x. f x >>= g)
bind-bind None f g = refl
bind-bind (Some x) f g = refl

bare_two : (text : List ℕ) → two_at Bare text ≡ decimal_at 2 text
unfolding two_at decimal_at
bare_two text = two_on (digit_at text)

bare_three : (text : List ℕ) → three_at Bare text ≡ decimal_at 3 text
unfolding three_at decimal_at
bare_three text =
    ap (λ (o : Option (ℕ × List ℕ)). o >>= λ two. digit_more two (digit_at two.1)) (bare_two text)
    ∙ bind-bind (digit_at text) (λ first. Some (digits_on 1 first)) (λ two. digit_more two (digit_at two.1)) ∙ three_on (digit_at text)

bare_four : (text : List ℕ) → four_at Bare text ≡ decimal_at 4 text
unfolding four_at decimal_at
bare_four text =
    ap (λ (o : Option (ℕ × List ℕ)). o >>= λ three. digit_more three (digit_at three.1)) (bare_three text)
    ∙ bind-bind (digit_at text) (λ first. Some (digits_on 2 first)) (λ three. digit_more three (digit_at three.1)) ∙ four_on (digit_at text)

-- ---- spaces before the digits

no_space : (width n : ℕ) (piece : List ℕ) → 1 ≤ width → IsDecimal width width n piece → IsNumeral Space width width n piece
no_space width n piece some is =
    (0, piece, omega (arith, some), refl, decimal-within width width (width - 0) (width - 0) n piece (omega arith) (omega arith) is)

space-before : (width n : ℕ) (piece : List ℕ) → IsNumeral Space width width n piece → IsNumeral Space (suc width) (suc width) n (32 ∷ piece)
space-before width n piece is = (
  suc is.0,
  is.1,
  omega (arith, is.2),
  ap (λ (z : List ℕ). 32 ∷ z) is.3,
  decimal-within (width - is.0) (width - is.0) (suc width - suc is.0) (suc width - suc is.0) n is.1 (omega arith) (omega arith) is.4,
)

space-taken : (width n : ℕ) (text more rest : List ℕ) → mark_at 32 text ≡ Some more → Piece (IsNumeral Space width width n) more rest
    → Piece (IsNumeral Space (suc width) (suc width) n) text rest
space-taken width n text more rest e got =
    record {
      piece = 32 ∷ got.piece;
      front = mark_takes 32 text more e ∙ ap (λ (z : List ℕ). 32 ∷ z) got.front;
      is = space-before width n got.piece got.is;
    }

whole-taken : (width n : ℕ) (text rest : List ℕ) → 1 ≤ width → Piece (IsDecimal width width n) text rest
    → Piece (IsNumeral Space width width n) text rest
whole-taken width n text rest some got =
    record { piece = got.piece; front = got.front; is = no_space width n got.piece some got.is }

space_two-taken : (text : List ℕ) (o : Option (List ℕ)) (n : ℕ) (rest : List ℕ) → mark_at 32 text ≡ o → spaced_two text o ≡ Some (n, rest)
    → Piece (IsNumeral Space 2 2 n) text rest
space_two-taken text None n rest e h = whole-taken 2 n text rest (omega arith) (two_digits-taken text n rest h)
space_two-taken text (Some more) n rest e h =
    space-taken 1 n text more rest e (whole-taken 1 n more rest (omega arith) (one_digit-taken more n rest h))

pub two_at-taken : (padding : Padding) (text : List ℕ) (n : ℕ) (rest : List ℕ) → two_at padding text ≡ Some (n, rest)
    → Piece (IsNumeral padding 2 2 n) text rest
unfolding two_at
two_at-taken Zero text n rest h = two_digits-taken text n rest h
two_at-taken Space text n rest h = space_two-taken text (mark_at 32 text) n rest refl h
two_at-taken Bare text n rest h = decimal_at-taken 2 text n rest (omega arith) (sym (bare_two text) ∙ h)

space_three-taken : (text : List ℕ) (o : Option (List ℕ)) (n : ℕ) (rest : List ℕ) → mark_at 32 text ≡ o
    → spaced_three text o ≡ Some (n, rest)
    → Piece (IsNumeral Space 3 3 n) text rest
space_three-taken text None n rest e h = whole-taken 3 n text rest (omega arith) (three_digits-taken text n rest h)
space_three-taken text (Some more) n rest e h = space-taken 2 n text more rest e (two_at-taken Space more n rest h)

pub three_at-taken : (padding : Padding) (text : List ℕ) (n : ℕ) (rest : List ℕ) → three_at padding text ≡ Some (n, rest)
    → Piece (IsNumeral padding 3 3 n) text rest
unfolding three_at
three_at-taken Zero text n rest h = three_digits-taken text n rest h
three_at-taken Space text n rest h = space_three-taken text (mark_at 32 text) n rest refl h
three_at-taken Bare text n rest h = decimal_at-taken 3 text n rest (omega arith) (sym (bare_three text) ∙ h)

space_four-taken : (text : List ℕ) (o : Option (List ℕ)) (n : ℕ) (rest : List ℕ) → mark_at 32 text ≡ o → spaced_four text o ≡ Some (n, rest)
    → Piece (IsNumeral Space 4 4 n) text rest
space_four-taken text None n rest e h = whole-taken 4 n text rest (omega arith) (four_digits-taken text n rest h)
space_four-taken text (Some more) n rest e h = space-taken 3 n text more rest e (three_at-taken Space more n rest h)

pub four_at-taken : (padding : Padding) (text : List ℕ) (n : ℕ) (rest : List ℕ) → four_at padding text ≡ Some (n, rest)
    → Piece (IsNumeral padding 4 4 n) text rest
unfolding four_at
four_at-taken Zero text n rest h = four_digits-taken text n rest h
four_at-taken Space text n rest h = space_four-taken text (mark_at 32 text) n rest refl h
four_at-taken Bare text n rest h = decimal_at-taken 4 text n rest (omega arith) (sym (bare_four text) ∙ h)

-- ---- what is spelled is read

-- without padding no digit follows, or there is no place for one
abbrev pub EndsBy : Padding → ℕ → List ℕ → List ℕ → Type 0
EndsBy padding width piece rest = IsTrue (not (is_padded padding)) → Ends width piece rest

no_mark : (c : ℕ) (text : List ℕ) → is_ascii_digit c ≡ true → mark_at 32 (c ∷ text) ≡ None
unfolding mark_at
no_mark c text h = grind (arith, nat_tests)

digits-no_mark : (width n : ℕ) (piece rest : List ℕ) → 1 ≤ width → IsDecimal width width n piece → mark_at 32 (piece ++ rest) ≡ None
digits-no_mark width n [] rest some is = absurd (omega (arith, some, is.at_least))
digits-no_mark width n (c ∷ piece) rest some is =
    no_mark c (piece ++ rest) (and_parts (is_ascii_digit c) (list_all is_ascii_digit piece) is.are).0

space_two-again : (n spaces : ℕ) (digits rest : List ℕ) → spaces < 2 → IsDecimal (2 - spaces) (2 - spaces) n digits
    → two_at Space ((replicate spaces 32 ++ digits) ++ rest) ≡ Some (n, rest)
unfolding two_at
space_two-again n zero digits rest few is = rw (digits-no_mark 2 n digits rest (omega arith) is) (two_digits-again n digits rest is)
space_two-again n (suc zero) digits rest few is = rw (mark_again 32 (digits ++ rest)) (one_digit-again n digits rest is)
space_two-again n (suc (suc spaces)) digits rest few is = absurd (omega (arith, few))

pub two_at-again : (padding : Padding) (n : ℕ) (piece rest : List ℕ) → IsNumeral padding 2 2 n piece → EndsBy padding 2 piece rest
    → two_at padding (piece ++ rest) ≡ Some (n, rest)
unfolding two_at
two_at-again Zero n piece rest is ends = two_digits-again n piece rest is
two_at-again Space n piece rest is ends = rw is.3 (space_two-again n is.0 is.1 rest is.2 is.4)
two_at-again Bare n piece rest is ends = bare_two (piece ++ rest) ∙ decimal_at-again 2 n piece rest is (ends refl)

space_three-again : (n spaces : ℕ) (digits rest : List ℕ) → spaces < 3 → IsDecimal (3 - spaces) (3 - spaces) n digits
    → three_at Space ((replicate spaces 32 ++ digits) ++ rest) ≡ Some (n, rest)
unfolding three_at
space_three-again n zero digits rest few is = rw (digits-no_mark 3 n digits rest (omega arith) is) (three_digits-again n digits rest is)
space_three-again n (suc spaces) digits rest few is =
    let fewer = decimal-within (3 - suc spaces) (3 - suc spaces) (2 - spaces) (2 - spaces) n digits (omega arith) (omega arith) is in
    rw (mark_again 32 ((replicate spaces 32 ++ digits) ++ rest)) (space_two-again n spaces digits rest (omega (arith, few)) fewer)

pub three_at-again : (padding : Padding) (n : ℕ) (piece rest : List ℕ) → IsNumeral padding 3 3 n piece → EndsBy padding 3 piece rest
    → three_at padding (piece ++ rest) ≡ Some (n, rest)
unfolding three_at
three_at-again Zero n piece rest is ends = three_digits-again n piece rest is
three_at-again Space n piece rest is ends = rw is.3 (space_three-again n is.0 is.1 rest is.2 is.4)
three_at-again Bare n piece rest is ends = bare_three (piece ++ rest) ∙ decimal_at-again 3 n piece rest is (ends refl)

space_four-again : (n spaces : ℕ) (digits rest : List ℕ) → spaces < 4 → IsDecimal (4 - spaces) (4 - spaces) n digits
    → four_at Space ((replicate spaces 32 ++ digits) ++ rest) ≡ Some (n, rest)
unfolding four_at
space_four-again n zero digits rest few is = rw (digits-no_mark 4 n digits rest (omega arith) is) (four_digits-again n digits rest is)
space_four-again n (suc spaces) digits rest few is =
    let fewer = decimal-within (4 - suc spaces) (4 - suc spaces) (3 - spaces) (3 - spaces) n digits (omega arith) (omega arith) is in
    rw (mark_again 32 ((replicate spaces 32 ++ digits) ++ rest)) (space_three-again n spaces digits rest (omega (arith, few)) fewer)

pub four_at-again : (padding : Padding) (n : ℕ) (piece rest : List ℕ) → IsNumeral padding 4 4 n piece → EndsBy padding 4 piece rest
    → four_at padding (piece ++ rest) ≡ Some (n, rest)
unfolding four_at
four_at-again Zero n piece rest is ends = four_digits-again n piece rest is
four_at-again Space n piece rest is ends = rw is.3 (space_four-again n is.0 is.1 rest is.2 is.4)
four_at-again Bare n piece rest is ends = bare_four (piece ++ rest) ∙ decimal_at-again 4 n piece rest is (ends refl)
