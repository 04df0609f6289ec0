-- The terms that are read are those of the grammar, and the other way round.
use Rattle.std.proofs.Common.{◌≡◌, inl, inr, refl, sym, ap, subst, ◌∙◌, ℕ, zero, suc, ◌≤◌, ◌<◌, ◌==◌, arith}
use Rattle.std.proofs.Common.{Bool, true, false, List, [], ◌∷◌, ◌++◌, append_assoc, length, length-append, Some, Ok}
use Rattle.std.proofs.Common.{ℤ, ◌+ℤ◌}
use Rattle.std.specs.Prelude.{IsTrue}
use Rattle.std.specs.Char.{is_ascii_digit}
use Rattle.std.specs.List.{list_all}
use Rattle.std.proofs.lemmas.Bool.{cases_Bool}
use Rattle.calendar_values.specs.Durations.{IsDuration}
use Rattle.duration_texts.specs.Grammar.{Sign, sign_text, is_negative, Term, term_text, terms_text, after_blanks, IsTerm, AreTerms}
use Rattle.duration_texts.specs.Grammar.Sign.{Unsigned, Plus, Minus}
use Rattle.duration_texts.specs.Numbers.{Number, IsNumber, HasNanoseconds, number_text, fraction_text}
use Rattle.duration_texts.specs.Pieces.{front, past, blanks, is_blank, is_letter}
use Rattle.duration_texts.specs.Reading.{number_at, sign_at, unit_at, sum_with, with_sign, term_at, terms_from, goes_on}
use Rattle.duration_texts.specs.Units.{unit_of}
use Rattle.duration_texts.proofs.FrontLemmas.{Stops, blanks-past, past-blanks, stops-blanks, stops-other, no_length, length-some}
use Rattle.duration_texts.proofs.TermLemmas.{bind_ok, chosen, ok_same, number_at-ok, number_at-again, Ends, sign_at-is, NoSign, sign_at-again}
use Rattle.duration_texts.proofs.TermLemmas.{unit_at-ok, unit_at-again, sum_with-ok, sum_with-again}
use Rattle.duration_texts.proofs.TermLemmas.{digit-no_byte, letter-no_blank, digit-no_letter, letter-no_digit, letter-no_point}

-- ---- what is read

-- what is read of a term
record ReadsTerm (negative : Bool) (sum : ℤ) (text : List ℕ) (read : Bool × ℤ × List ℕ) : Type 0 where
  sign : Sign
  number : Number
  between : ℕ
  word : List ℕ
  unit : ℕ
  n : ℕ
  spelled : text ≡ sign_text sign ++ (number_text number ++ (blanks between ++ (word ++ read.2)))
  digits : IsNumber number
  letters : IsTrue (list_all is_letter word)
  named : unit_of word ≡ Some unit
  value : HasNanoseconds unit number n
  signed : read.0 ≡ is_negative negative sign
  total : read.1 ≡ sum +ℤ with_sign read.0 n
  in_range : IsDuration read.1

term_at-ok : (negative : Bool) (sum : ℤ) (text : List ℕ) (read : Bool × ℤ × List ℕ) → term_at negative sum text ≡ Ok read → ReadsTerm negative sum text read
unfolding term_at
term_at-ok negative sum text read e =
    let s = sign_at negative text in
    let number = bind_ok (number_at s.1) _ read e in
    let unit = bind_ok (unit_at number.0.1) _ read number.2 in
    let more = bind_ok (sum_with s.0 sum unit.0.0 number.0.0 text) _ read unit.2 in
    let same = ok_same (s.0, more.0, unit.0.1) read more.2 in
    let sign = sign_at-is negative text in
    let digits = number_at-ok s.1 number.0.0 number.0.1 number.1 in
    let word = unit_at-ok number.0.1 unit.0.0 unit.0.1 unit.1 in
    let value = sum_with-ok s.0 sum unit.0.0 number.0.0 text more.0 more.1 in
    subst (ReadsTerm negative sum text) same (record {
      sign = sign.0;
      number = number.0.0;
      between = word.0;
      word = word.1;
      unit = unit.0.0;
      n = value.0;
      spelled =
          sign.1
          ∙ ap (λ (xs : List ℕ). sign_text sign.0 ++ xs) (digits.0 ∙ ap (λ (xs : List ℕ). number_text number.0.0 ++ xs) word.2);
      digits = digits.1;
      letters = word.4;
      named = word.5;
      value = value.1;
      signed = sign.2;
      total = value.2;
      in_range = value.3;
    })

regroup : (s n b w a g : List ℕ) → (s ++ (n ++ (b ++ (w ++ a)))) ++ g ≡ s ++ (n ++ (b ++ (w ++ (a ++ g))))
regroup s n b w a g =
    append_assoc s (n ++ (b ++ (w ++ a))) g
    ∙ ap (λ (xs : List ℕ). s ++ xs) (append_assoc n (b ++ (w ++ a)) g
    ∙ ap (λ (xs : List ℕ). n ++ xs) (append_assoc b (w ++ a) g ∙ ap (λ (xs : List ℕ). b ++ xs) (append_assoc w a g)))

goes_on-after : (negative : Bool) (text : List ℕ) → goes_on negative text ≡ after_blanks (length (front is_blank text)) negative
goes_on-after negative [] = refl
goes_on-after negative (byte ∷ bytes) =
    elim (cases_Bool (is_blank byte)) [
      | inl t ↦ rw t refl
      | inr t ↦ rw t refl
    ]

-- the terms that are read make the total
pub record ReadsTerms (negative : Bool) (sum : ℤ) (text : List ℕ) (total : ℤ) : Type 0 where
  pub first : Term
  pub others : List Term
  pub spelled : text ≡ terms_text (first ∷ others)
  pub value : AreTerms negative sum (first ∷ others) total
  pub in_range : IsDuration total

one_term : (negative : Bool) (sum : ℤ) (text : List ℕ) (read : Bool × ℤ × List ℕ) (total : ℤ) (r : ReadsTerm negative sum text read) (others : List Term)
    → past is_blank read.2 ≡ terms_text others → AreTerms (goes_on read.0 read.2) read.1 others total → IsDuration total
    → ReadsTerms negative sum text total
one_term negative sum text read total r others rest value in_range =
    let term : Term = record { sign = r.sign; number = r.number; between = r.between; word = r.word; after = length (front is_blank read.2) } in
    let after = blanks (length (front is_blank read.2)) in
    let whole : read.1 ≡ sum +ℤ with_sign (is_negative negative r.sign) r.n = r.total ∙ ap (λ (b : Bool). sum +ℤ with_sign b r.n) r.signed in
    let goes : goes_on read.0 read.2 ≡ after_blanks (length (front is_blank read.2)) (is_negative negative r.sign) =
    goes_on-after read.0 read.2 ∙ ap (after_blanks (length (front is_blank read.2))) r.signed in
    record {
      first = term;
      others = others;
      spelled =
          r.spelled
          ∙ ap (λ (xs : List ℕ). sign_text r.sign ++ (number_text r.number ++ (blanks r.between ++ (r.word ++ xs))))
          (blanks-past read.2 ∙ ap (λ (xs : List ℕ). after ++ xs) rest)
          ∙ sym (regroup (sign_text r.sign) (number_text r.number) (blanks r.between) r.word after (terms_text others));
      value = (
        r.n,
        record { digits = r.digits; letters = r.letters; unit = r.unit; named = r.named; value = r.value },
        subst (λ (z : ℤ). IsDuration z) whole r.in_range,
        subst (λ (z : ℤ). AreTerms (after_blanks (length (front is_blank read.2)) (is_negative negative r.sign)) z others total) whole
            (subst (λ (b : Bool). AreTerms b read.1 others total) goes value),
      );
      in_range = in_range;
    }

pub terms_from-ok : (most : ℕ) (negative : Bool) (sum : ℤ) (text : List ℕ) (total : ℤ) → terms_from most negative sum text ≡ Ok total
    → ReadsTerms negative sum text total
unfolding terms_from
terms_from-ok zero negative sum text total e = absurd cc
terms_from-ok (suc most) negative sum text total e =
    let term = bind_ok (term_at negative sum text) _ total e in
    let r = term_at-ok negative sum text term.0 term.1 in
    elim (chosen (length (past is_blank term.0.2) == 0) _ _ _ term.2) [
      | inl h ↦
          let same = ok_same term.0.1 total h.1 in
          one_term negative sum text term.0 total r [] (no_length (past is_blank term.0.2) h.0) same (subst (λ (z : ℤ). IsDuration z) same r.in_range)
      | inr h ↦
          let rest = terms_from-ok most (goes_on term.0.0 term.0.2) term.0.1 (past is_blank term.0.2) total h.1 in
          one_term negative sum text term.0 total r (rest.first ∷ rest.others) rest.spelled rest.value rest.in_range
    ]

-- ---- what is spelled

-- a text whose first byte is no letter and no blank
pub record Begins (text : List ℕ) : Type 0 where
  pub letter : Stops is_letter text
  pub blank : Stops is_blank text
  pub iso : Stops (λ byte. byte == 80) text

pub stops-number : (test : ℕ → Bool) (number : Number) (rest : List ℕ) → ((byte : ℕ) → is_ascii_digit byte ≡ true → test byte ≡ false) → IsNumber number
    → Stops test (number_text number ++ rest)
stops-number test number rest apart digits =
    let inner = stops-other is_ascii_digit test number.whole (fraction_text number.fraction ++ rest) apart digits.some digits.whole in
    subst (Stops test) (sym (append_assoc number.whole (fraction_text number.fraction) rest)) inner

pub begins-number : (number : Number) (rest : List ℕ) → IsNumber number → Begins (number_text number ++ rest)
begins-number number rest digits = record {
  letter = stops-number is_letter number rest digit-no_letter digits;
  blank = stops-number is_blank number rest (λ byte. digit-no_byte byte 32 refl) digits;
  iso = stops-number (λ byte. byte == 80) number rest (λ byte. digit-no_byte byte 80 refl) digits;
}

pub no_sign-number : (number : Number) (rest : List ℕ) → IsNumber number → NoSign (number_text number ++ rest)
no_sign-number number rest digits = record {
  minus = stops-number (λ byte. byte == 45) number rest (λ byte. digit-no_byte byte 45 refl) digits;
  plus = stops-number (λ byte. byte == 43) number rest (λ byte. digit-no_byte byte 43 refl) digits;
}

pub begins-signed : (sign : Sign) (number : Number) (rest : List ℕ) → IsNumber number → Begins (sign_text sign ++ (number_text number ++ rest))
begins-signed Unsigned number rest digits = begins-number number rest digits
begins-signed Plus number rest digits = record { letter = refl; blank = refl; iso = refl }
begins-signed Minus number rest digits = record { letter = refl; blank = refl; iso = refl }

begins-none : Begins []
begins-none = record { letter = tt; blank = tt; iso = tt }

-- the text after the number of a term
abbrev pub after_number : Term → List ℕ → List ℕ
after_number term rest = blanks term.between ++ (term.word ++ (blanks term.after ++ rest))

pub term_text-then : (term : Term) (rest : List ℕ) → term_text term ++ rest ≡ sign_text term.sign ++ (number_text term.number ++ after_number term rest)
term_text-then term rest = regroup (sign_text term.sign) (number_text term.number) (blanks term.between) term.word (blanks term.after) rest

begins-term : (term : Term) (rest : List ℕ) (n : ℕ) → IsTerm term n → Begins (term_text term ++ rest)
begins-term term rest n h = subst Begins (sym (term_text-then term rest)) (begins-signed term.sign term.number (after_number term rest) h.digits)

pub begins-terms : (terms : List Term) (negative : Bool) (sum total : ℤ) → AreTerms negative sum terms total → Begins (terms_text terms)
begins-terms [] negative sum total h = begins-none
begins-terms (term ∷ terms) negative sum total h = begins-term term (terms_text terms) h.0 h.1

word-some : (word : List ℕ) (unit : ℕ) → unit_of word ≡ Some unit → 0 < length word
unfolding unit_of
word-some [] unit e = absurd cc
word-some (byte ∷ bytes) unit e = omega arith

pub ends-number : (term : Term) (rest : List ℕ) (n : ℕ) → IsTerm term n → Ends (after_number term rest)
ends-number term rest n h =
    let some = word-some term.word h.unit h.named in
    record {
      digit =
          stops-blanks is_ascii_digit term.between (term.word ++ (blanks term.after ++ rest)) refl
          (stops-other is_letter is_ascii_digit term.word (blanks term.after ++ rest) letter-no_digit some h.letters);
      point =
          stops-blanks (λ byte. byte == 46) term.between (term.word ++ (blanks term.after ++ rest)) refl
          (stops-other is_letter (λ byte. byte == 46) term.word (blanks term.after ++ rest) letter-no_point some h.letters);
    }

pub unit_at-after : (term : Term) (rest : List ℕ) (n : ℕ) → (h : IsTerm term n) → Begins rest
    → unit_at (after_number term rest) ≡ Ok (h.unit, blanks term.after ++ rest)
unit_at-after term rest n h begins =
    unit_at-again term.between term.word (blanks term.after ++ rest) h.unit (word-some term.word h.unit h.named) h.letters h.named
    (stops-blanks is_letter term.after rest refl begins.letter)

term_at-again : (negative : Bool) (sum : ℤ) (term : Term) (rest : List ℕ) (n : ℕ) → IsDuration sum → IsTerm term n → Begins rest
    → IsDuration (sum +ℤ with_sign (is_negative negative term.sign) n)
    → term_at negative sum (term_text term ++ rest)
    ≡ Ok (is_negative negative term.sign, sum +ℤ with_sign (is_negative negative term.sign) n, blanks term.after ++ rest)
unfolding term_at
term_at-again negative sum term rest n before h begins after =
    let text = number_text term.number ++ after_number term rest in
    rw (term_text-then term rest)
    (rw (sign_at-again negative term.sign text (no_sign-number term.number (after_number term rest) h.digits))
    (rw (number_at-again term.number (after_number term rest) h.digits (ends-number term rest n h))
    (rw (unit_at-after term rest n h begins)
    (rw (sum_with-again (is_negative negative term.sign) sum h.unit term.number (sign_text term.sign ++ text) n before h.value after) refl))))

goes_on-blanks : (n : ℕ) (negative : Bool) (rest : List ℕ) → Stops is_blank rest → goes_on negative (blanks n ++ rest) ≡ after_blanks n negative
goes_on-blanks zero negative [] stops = refl
goes_on-blanks zero negative (byte ∷ bytes) stops = rw stops refl
goes_on-blanks (suc n) negative rest stops = refl

-- a text that begins with a byte that passes no test is there
some-terms : (term : Term) (rest : List ℕ) (n : ℕ) → IsTerm term n → 0 < length (term_text term ++ rest)
some-terms term rest n h =
    let some = h.digits.some in
    let whole = length-append (sign_text term.sign) (number_text term.number ++ after_number term rest) in
    let number = length-append (number_text term.number) (after_number term rest) in
    let digits = length-append term.number.whole (fraction_text term.number.fraction) in
    let all = ap (length {A = ℕ}) (term_text-then term rest) in
    omega (arith, some, whole, number, digits, all)

pub terms_from-again : (most : ℕ) (negative : Bool) (sum : ℤ) (first : Term) (others : List Term) (total : ℤ) → length others < most → IsDuration sum
    → AreTerms negative sum (first ∷ others) total → terms_from most negative sum (terms_text (first ∷ others)) ≡ Ok total
unfolding terms_from
terms_from-again zero negative sum first others total low before h = absurd (omega (arith, low))
terms_from-again (suc most) negative sum first [] total low before h =
    rw (term_at-again negative sum first [] h.0 before h.1 begins-none h.2)
    (rw (past-blanks first.after [] tt) (ap Ok h.3))
terms_from-again (suc most) negative sum first (second ∷ others) total low before h =
    let rest = terms_text (second ∷ others) in
    let begins = begins-terms (second ∷ others) _ _ total h.3 in
    rw (term_at-again negative sum first rest h.0 before h.1 begins h.2)
    (rw (past-blanks first.after rest begins.blank)
    (rw (length-some rest (some-terms second (terms_text others) h.3.0 h.3.1))
    (rw (goes_on-blanks first.after (is_negative negative first.sign) rest begins.blank)
    (terms_from-again most (after_blanks first.after (is_negative negative first.sign)) (sum +ℤ with_sign (is_negative negative first.sign) h.0) second others
    total (omega (arith, low)) h.2 h.3))))

-- there are no more terms than bytes
pub length-terms : (terms : List Term) (negative : Bool) (sum total : ℤ) → AreTerms negative sum terms total → length terms ≤ length (terms_text terms)
length-terms [] negative sum total h = omega arith
length-terms (term ∷ terms) negative sum total h =
    let rest = length-terms terms _ _ total h.3 in
    let some = some-terms term [] h.0 h.1 in
    let nothing = length-append (term_text term) [] in
    let all = length-append (term_text term) (terms_text terms) in
    omega (arith, rest, some, nothing, all)

-- what follows the number of a term is more than blanks
pub some-after : (term : Term) (rest : List ℕ) (n : ℕ) → IsTerm term n → (length (past is_blank (after_number term rest)) == 0) ≡ false
some-after term rest n h =
    let some = word-some term.word h.unit h.named in
    let begins = stops-other is_letter is_blank term.word (blanks term.after ++ rest) letter-no_blank some h.letters in
    let all = length-append term.word (blanks term.after ++ rest) in
    rw (past-blanks term.between (term.word ++ (blanks term.after ++ rest)) begins)
    (length-some (term.word ++ (blanks term.after ++ rest)) (omega (arith, some, all)))
