-- Numbers with a sign: those that are read are spelled, and those that are spelled are read.
use Rattle.std.proofs.Common.{◌≡◌, ◌∙◌, ℕ, zero, suc, ◌+◌, ◌-◌, ◌<◌, ◌≤◌, inl, inr, Bool, true, false, List, [], ◌∷◌, ◌++◌, replicate}
use Rattle.std.proofs.Common.{Option, Some, None, refl, sym, ap, append_assoc, nat_eq, arith}
use Rattle.std.specs.Char.{is_ascii_digit}
use Rattle.std.specs.List.{list_all}
use Rattle.std.proofs.lemmas.Bool.{and_parts, cases_Bool, eqb-true}
use Rattle.std.proofs.lemmas.Bool.Decides.{nat_tests}
use Rattle.rfc3339.specs.Reading.{digit_at}
use Rattle.format_descriptions.specs.Reading.{unsigned, with_sign, sign_at}
use Rattle.format_descriptions.specs.SpelledPieces.{IsDecimal, IsNumeral, IsAfterSign, IsSigned, sign_text}
use Rattle.format_descriptions.specs.declared.modifiers.Padding.{Padding}
use Rattle.format_descriptions.specs.declared.modifiers.Padding.TheVariants.{Zero, Space, Bare}
use Rattle.format_descriptions.specs.declared.modifiers.Sign.{Sign}
use Rattle.format_descriptions.specs.declared.modifiers.Sign.TheVariants.{Automatic, Mandatory}
use Rattle.format_descriptions.proofs.SpelledDigitLemmas.{Piece}

-- ---- signs

-- a number after the sign that was found, or one that needs none
abbrev pub by_sign : Sign → (List ℕ → Option (ℕ × List ℕ)) → (List ℕ → Option (ℕ × List ℕ)) → List ℕ → Option (Bool × List ℕ)
    → Option ((Bool × ℕ) × List ℕ)
by_sign Automatic after plain text None = unsigned (plain text)
by_sign Mandatory after plain text None = None
by_sign Automatic after plain text (Some found) = with_sign found.0 (after found.1)
by_sign Mandatory after plain text (Some found) = with_sign found.0 (after found.1)

with_sign-taken : (b : Bool) (o : Option (ℕ × List ℕ)) (n : Bool × ℕ) (rest : List ℕ) → with_sign b o ≡ Some (n, rest)
    → (n.0 ≡ b) × (o ≡ Some (n.1, rest))
with_sign-taken b None n rest h = absurd cc
with_sign-taken b (Some r) n rest h =
    let pair : ((b, r.0), r.1) ≡ (n, rest) = cc in
    (sym (ap (λ (z : (Bool × ℕ) × List ℕ). z.0.0) pair), ap (λ (z : (Bool × ℕ) × List ℕ). Some (z.0.1, z.1)) pair)

pub unsigned-taken : (o : Option (ℕ × List ℕ)) (n : Bool × ℕ) (rest : List ℕ) → unsigned o ≡ Some (n, rest)
    → (n.0 ≡ false) × (o ≡ Some (n.1, rest))
unsigned-taken o n rest h = with_sign-taken false o n rest h

pub unsigned-again : (o : Option (ℕ × List ℕ)) (n : Bool × ℕ) (rest : List ℕ) → n.0 ≡ false → o ≡ Some (n.1, rest)
    → unsigned o ≡ Some (n, rest)
unsigned-again o n rest east h = rw h (ap (λ (b : Bool). Some ((b, n.1), rest)) (sym east))

sign-taken : (text : List ℕ) (b : Bool) (rest : List ℕ) → sign_at text ≡ Some (b, rest) → text ≡ sign_text b ++ rest
unfolding sign_at
sign-taken [] b rest h = absurd cc
sign-taken (first ∷ text) b rest h = elim (cases_Bool (nat_eq first 45)) [
  | inl t ↦
      let is : Some (true, text) ≡ Some (b, rest) = rw t at h in
      let pair : (true, text) ≡ (b, rest) = cc in
      rw (eqb-true first 45 t) (ap (λ (z : Bool × List ℕ). sign_text z.0 ++ z.1) pair)
  | inr f ↦ elim (cases_Bool (nat_eq first 43)) [
    | inl t ↦
        let is : Some (false, text) ≡ Some (b, rest) = rw (f, t) at h in
        let pair : (false, text) ≡ (b, rest) = cc in
        rw (eqb-true first 43 t) (ap (λ (z : Bool × List ℕ). sign_text z.0 ++ z.1) pair)
    | inr g ↦ let is = rw (f, g) at h in absurd cc
  ]
]

sign-again : (b : Bool) (rest : List ℕ) → sign_at (sign_text b ++ rest) ≡ Some (b, rest)
unfolding sign_at
sign-again true rest = refl
sign-again false rest = refl

sign-first : (b : Bool) (rest : List ℕ) → digit_at (sign_text b ++ rest) ≡ None
unfolding digit_at
sign-first true rest = refl
sign-first false rest = refl

digit-no_sign : (c : ℕ) (text : List ℕ) → is_ascii_digit c ≡ true → sign_at (c ∷ text) ≡ None
unfolding sign_at
digit-no_sign c text h = grind (arith, nat_tests)

decimal-no_sign : (least most n : ℕ) (piece rest : List ℕ) → 1 ≤ least → IsDecimal least most n piece → sign_at (piece ++ rest) ≡ None
decimal-no_sign least most n [] rest some is = absurd (omega (arith, some, is.at_least))
decimal-no_sign least most n (c ∷ piece) rest some is =
    digit-no_sign c (piece ++ rest) (and_parts (is_ascii_digit c) (list_all is_ascii_digit piece) is.are).0

space-no_sign : (width n spaces : ℕ) (digits rest : List ℕ) → spaces < width → IsDecimal (width - spaces) (width - spaces) n digits
    → sign_at ((replicate spaces 32 ++ digits) ++ rest) ≡ None
unfolding sign_at
space-no_sign width n zero digits rest few is = decimal-no_sign (width - 0) (width - 0) n digits rest (omega (arith, few)) is
space-no_sign width n (suc spaces) digits rest few is = refl

numeral-no_sign : (padding : Padding) (width n : ℕ) (piece rest : List ℕ) → 1 ≤ width → IsNumeral padding width width n piece
    → sign_at (piece ++ rest) ≡ None
numeral-no_sign Zero width n piece rest some is = decimal-no_sign width width n piece rest some is
numeral-no_sign Bare width n piece rest some is = decimal-no_sign 1 width n piece rest (omega arith) is
numeral-no_sign Space width n piece rest some is = rw is.3 (space-no_sign width n is.0 is.1 rest is.2 is.4)

-- ---- a number, by its sign

found-taken : (padding : Padding) (width more : ℕ) (after : List ℕ → Option (ℕ × List ℕ)) (text : List ℕ)
    (found : Bool × List ℕ) (n : Bool × ℕ) (rest : List ℕ)
    → ((t : List ℕ) (m : ℕ) (r : List ℕ) → after t ≡ Some (m, r) → Piece (IsNumeral padding width (width + more) m) t r)
    → sign_at text ≡ Some found → with_sign found.0 (after found.1) ≡ Some (n, rest) → Piece (IsAfterSign padding width more n) text rest
found-taken padding width more after text found n rest taken e h =
    let s = with_sign-taken found.0 (after found.1) n rest h in
    let got = taken found.1 n.1 rest s.1 in
    let sign = sign-taken text found.0 found.1 e in
    record {
      piece = sign_text n.0 ++ got.piece;
      front = sign ∙ ap (λ (z : List ℕ). sign_text found.0 ++ z) got.front ∙ ap (λ (b : Bool). sign_text b ++ (got.piece ++ rest)) (sym s.0)
          ∙ sym (append_assoc (sign_text n.0) got.piece rest);
      is = (got.piece, refl, got.is);
    }

pub signed-taken : (sign : Sign) (padding : Padding) (width more : ℕ) (after plain : List ℕ → Option (ℕ × List ℕ)) (text : List ℕ)
    (o : Option (Bool × List ℕ)) (n : Bool × ℕ) (rest : List ℕ)
    → ((t : List ℕ) (m : ℕ) (r : List ℕ) → after t ≡ Some (m, r) → Piece (IsNumeral padding width (width + more) m) t r)
    → ((t : List ℕ) (m : ℕ) (r : List ℕ) → plain t ≡ Some (m, r) → Piece (IsNumeral padding width width m) t r)
    → sign_at text ≡ o → by_sign sign after plain text o ≡ Some (n, rest) → Piece (IsSigned sign padding width more n) text rest
signed-taken Automatic padding width more after plain text None n rest taken bare e h =
    let u = unsigned-taken (plain text) n rest h in
    let got = bare text n.1 rest u.1 in
    record { piece = got.piece; front = got.front; is = inr (u.0, got.is) }
signed-taken Mandatory padding width more after plain text None n rest taken bare e h = absurd cc
signed-taken Automatic padding width more after plain text (Some found) n rest taken bare e h =
    let got = found-taken padding width more after text found n rest taken e h in
    record { piece = got.piece; front = got.front; is = inl got.is }
signed-taken Mandatory padding width more after plain text (Some found) n rest taken bare e h =
    found-taken padding width more after text found n rest taken e h

sign_seen : (b : Bool) (piece number rest : List ℕ) → piece ≡ sign_text b ++ number → sign_at (piece ++ rest) ≡ Some (b, number ++ rest)
sign_seen b piece number rest e = rw (e, append_assoc (sign_text b) number rest) (sign-again b (number ++ rest))

pub signed-again : (sign : Sign) (padding : Padding) (width more : ℕ) (after plain : List ℕ → Option (ℕ × List ℕ)) (n : Bool × ℕ)
    (piece rest : List ℕ) → 1 ≤ width
    → ((m : ℕ) (number : List ℕ) → IsNumeral padding width (width + more) m number → after (number ++ rest) ≡ Some (m, rest))
    → ((m : ℕ) (number : List ℕ) → IsNumeral padding width width m number → plain (number ++ rest) ≡ Some (m, rest))
    → IsSigned sign padding width more n piece → by_sign sign after plain (piece ++ rest) (sign_at (piece ++ rest)) ≡ Some (n, rest)
signed-again Automatic padding width more after plain n piece rest some again bare (inl is) =
    rw (sign_seen n.0 piece is.0 rest is.1, again n.1 is.0 is.2) refl
signed-again Automatic padding width more after plain n piece rest some again bare (inr is) =
    rw (numeral-no_sign padding width n.1 piece rest some is.1) (unsigned-again (plain (piece ++ rest)) n rest is.0 (bare n.1 piece is.1))
signed-again Mandatory padding width more after plain n piece rest some again bare is =
    rw (sign_seen n.0 piece is.0 rest is.1, again n.1 is.0 is.2) refl

-- ---- a sign is no digit

pub sign-no_digit : (padding : Padding) (width more : ℕ) (n : Bool × ℕ) (piece rest : List ℕ) → IsAfterSign padding width more n piece
    → digit_at (piece ++ rest) ≡ None
sign-no_digit padding width more n piece rest is = rw (is.1, append_assoc (sign_text n.0) is.0 rest) (sign-first n.0 (is.0 ++ rest))
