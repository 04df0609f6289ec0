-- A text is read as a number of nanoseconds exactly if it derives them.
use Rattle.std.proofs.Common.{◌≡◌, ◌⊎◌, inl, inr, refl, sym, ap, subst, ◌∙◌, ℕ, zero, suc, ◌==◌, arith}
use Rattle.std.proofs.Common.{Bool, false, List, [], ◌∷◌, ◌++◌, append-nil, length, Result, Ok, Err}
use Rattle.std.proofs.Common.{ℤ, pos, ◌+ℤ◌}
use Rattle.std.proofs.lemmas.Int.{ints}
use Rattle.std.specs.Prelude.{IfOk}
use Rattle.std.proofs.lemmas.Bool.{eqb-true}
use Rattle.calendar_values.specs.Clock.{nanos_per_second}
use Rattle.calendar_values.specs.Durations.{IsDuration}
use Rattle.duration_texts.specs.Grammar.{Sign, sign_text, is_negative, terms_text, Derives, DerivesTerms, DerivesSeconds, DerivesIso}
use Rattle.duration_texts.specs.Grammar.{AreDays, AreDaysAndTime}
use Rattle.duration_texts.specs.Grammar.Sign.{Unsigned, Plus, Minus}
use Rattle.duration_texts.specs.Numbers.{number_text}
use Rattle.duration_texts.specs.Pieces.{front, past, blanks, is_blank}
use Rattle.duration_texts.specs.Reading.{number_at, sign_at, with_sign, terms_from, iso_from, number_or_terms, duration_after, nanoseconds_in, reading_of}
use Rattle.duration_texts.specs.declared.faults.Stop.{Stop}
use Rattle.duration_texts.specs.declared.faults.DurationRefusal.{DurationRefusal}
use Rattle.duration_texts.proofs.FrontLemmas.{Stops, blanks-past, past-blanks, no_length}
use Rattle.duration_texts.proofs.IsoLemmas.{iso_from-ok, iso_from-days, iso_from-time, blanks-past_all}
use Rattle.duration_texts.proofs.TermLemmas.{bind_ok, chosen, number_at-ok, number_at-again, Ends, sign_at-is, sign_at-again, NoSign}
use Rattle.duration_texts.proofs.TermLemmas.{sum_with-ok, sum_with-again}
use Rattle.duration_texts.proofs.TermsLemmas.{terms_from-ok, terms_from-again, begins-signed, no_sign-number, begins-number}
use Rattle.duration_texts.proofs.TermsLemmas.{after_number, term_text-then, ends-number, length-terms, some-after}

-- ---- what is read

number_or_terms-ok : (text trimmed after : List ℕ) (before : ℕ) (sign : Sign) (negative : Bool) (total : ℤ) → text ≡ blanks before ++ trimmed
    → trimmed ≡ sign_text sign ++ after → negative ≡ is_negative false sign → number_or_terms negative after trimmed ≡ Ok total → Derives text total
unfolding number_or_terms
number_or_terms-ok text trimmed after before sign negative total spelled begins is e =
    let number = bind_ok (number_at after) _ total e in
    let digits = number_at-ok after number.0.0 number.0.1 number.1 in
    elim (chosen (length (past is_blank number.0.1) == 0) _ _ _ number.2) [
      | inl h ↦
          let sum = sum_with-ok negative (pos 0) nanos_per_second number.0.0 trimmed total h.1 in
          let blank : number.0.1 ≡ blanks (length (front is_blank number.0.1)) =
          blanks-past number.0.1
          ∙ ap (λ (xs : List ℕ). blanks (length (front is_blank number.0.1)) ++ xs) (no_length (past is_blank number.0.1) h.0)
          ∙ append-nil (blanks (length (front is_blank number.0.1))) in
          let whole : with_sign negative sum.0 ≡ with_sign (is_negative false sign) sum.0 = ap (λ (b : Bool). with_sign b sum.0) is in (
            sum.3,
            inr (inl (record {
              before = before;
              sign = sign;
              number = number.0.0;
              after = length (front is_blank number.0.1);
              nanoseconds = sum.0;
              spelled =
                  spelled
                  ∙ ap (λ (xs : List ℕ). blanks before ++ xs) (begins ∙ ap (λ (xs : List ℕ). sign_text sign ++ xs) (digits.0
                  ∙ ap (λ (xs : List ℕ). number_text number.0.0 ++ xs) blank));
              digits = digits.1;
              value = sum.1;
              signed = sum.2 ∙ omega (arith, ints) ∙ whole;
            })),
          )
      | inr h ↦
          let terms = terms_from-ok (length trimmed) false (pos 0) trimmed total h.1 in (
            terms.in_range,
            inl (record {
              before = before;
              first = terms.first;
              others = terms.others;
              spelled = spelled ∙ ap (λ (xs : List ℕ). blanks before ++ xs) terms.spelled;
              value = terms.value;
            }),
          )
    ]

duration_after-ok : (text trimmed after : List ℕ) (before : ℕ) (sign : Sign) (negative : Bool) (total : ℤ) → text ≡ blanks before ++ trimmed
    → trimmed ≡ sign_text sign ++ after → negative ≡ is_negative false sign → IsDuration total
    → duration_after negative after trimmed ≡ Ok total → Derives text total
duration_after-ok text trimmed [] before sign negative total spelled begins is in_range e =
    number_or_terms-ok text trimmed [] before sign negative total spelled begins is e
duration_after-ok text trimmed (byte ∷ bytes) before sign negative total spelled begins is in_range e =
    elim (chosen (byte == 80) _ _ _ e) [
      | inl h ↦
          let iso = iso_from-ok negative bytes total h.1 in (
            in_range,
            inr (inr (record {
              before = before;
              sign = sign;
              parts = bytes;
              nanoseconds = iso.n;
              spelled =
                  spelled
                  ∙ ap (λ (xs : List ℕ). blanks before ++ xs) (begins
                  ∙ ap (λ (n : ℕ). sign_text sign ++ (n ∷ bytes)) (eqb-true byte 80 h.0));
              value = iso.value;
              signed = iso.signed ∙ ap (λ (b : Bool). with_sign b iso.n) is;
            })),
          )
      | inr h ↦ number_or_terms-ok text trimmed (byte ∷ bytes) before sign negative total spelled begins is h.1
    ]

pub nanoseconds_in-ok : (text : List ℕ) (total : ℤ) → IsDuration total → nanoseconds_in text ≡ Ok total → Derives text total
unfolding nanoseconds_in
nanoseconds_in-ok text total in_range e =
    let trimmed = past is_blank text in
    let sign = sign_at-is false trimmed in
    duration_after-ok text trimmed (sign_at false trimmed).1 (length (front is_blank text)) sign.0 (sign_at false trimmed).0 total (blanks-past text) sign.1
    sign.2
    in_range e

-- ---- what is spelled

duration_after-number_or_terms : (negative : Bool) (after text : List ℕ) → Stops (λ byte. byte == 80) after
    → duration_after negative after text ≡ number_or_terms negative after text
duration_after-number_or_terms negative [] text stops = refl
duration_after-number_or_terms negative (byte ∷ bytes) text stops = rw stops refl

-- the reading of a text by its sign and what follows it
signed-reading : (text : List ℕ) (before : ℕ) (sign : Sign) (after : List ℕ) → text ≡ blanks before ++ (sign_text sign ++ after)
    → Stops is_blank (sign_text sign ++ after) → NoSign after
    → nanoseconds_in text ≡ duration_after (is_negative false sign) after (sign_text sign ++ after)
unfolding nanoseconds_in
signed-reading text before sign after spelled stops no_sign =
    rw spelled (rw (past-blanks before (sign_text sign ++ after) stops) (rw (sign_at-again false sign after no_sign) refl))

ends-blanks : (n : ℕ) → Ends (blanks n)
ends-blanks zero = record { digit = tt; point = tt }
ends-blanks (suc n) = record { digit = refl; point = refl }

seconds-again : (text : List ℕ) (total : ℤ) → IsDuration total → DerivesSeconds text total → nanoseconds_in text ≡ Ok total
unfolding number_or_terms
seconds-again text total in_range h =
    let after = number_text h.number ++ blanks h.after in
    let begins = begins-signed h.sign h.number (blanks h.after) h.digits in
    let inner = begins-number h.number (blanks h.after) h.digits in
    let negative = is_negative false h.sign in
    let nothing : pos 0 +ℤ with_sign negative h.nanoseconds ≡ with_sign negative h.nanoseconds = omega (arith, ints) in
    let more : IsDuration (pos 0 +ℤ with_sign negative h.nanoseconds) =
    subst (λ (z : ℤ). IsDuration z) (h.signed ∙ sym nothing) in_range in
    let zero_duration : IsDuration (pos 0) = (omega (arith, ints), omega (arith, ints)) in
    signed-reading text h.before h.sign after h.spelled begins.blank (no_sign-number h.number (blanks h.after) h.digits)
    ∙ duration_after-number_or_terms negative after (sign_text h.sign ++ after) inner.iso
    ∙ rw (number_at-again h.number (blanks h.after) h.digits (ends-blanks h.after))
    (rw (blanks-past_all h.after)
    (sum_with-again negative (pos 0) nanos_per_second h.number (sign_text h.sign ++ after) h.nanoseconds zero_duration h.value more
    ∙ ap Ok (nothing ∙ sym h.signed)))

terms-again : (text : List ℕ) (total : ℤ) → DerivesTerms text total → nanoseconds_in text ≡ Ok total
unfolding number_or_terms
terms-again text total h =
    let rest = terms_text h.others in
    let sign = h.first.sign in
    let after = number_text h.first.number ++ after_number h.first rest in
    let term = h.value.1 in
    let whole = term_text-then h.first rest in
    let inner = begins-number h.first.number (after_number h.first rest) term.digits in
    let begins = begins-signed sign h.first.number (after_number h.first rest) term.digits in
    let zero_duration : IsDuration (pos 0) = (omega (arith, ints), omega (arith, ints)) in
    let many = length-terms (h.first ∷ h.others) false (pos 0) total h.value in
    signed-reading text h.before sign after (h.spelled ∙ ap (λ (xs : List ℕ). blanks h.before ++ xs) whole) begins.blank
    (no_sign-number h.first.number (after_number h.first rest) term.digits)
    ∙ duration_after-number_or_terms (is_negative false sign) after (sign_text sign ++ after) inner.iso
    ∙ rw (number_at-again h.first.number (after_number h.first rest) term.digits (ends-number h.first rest h.value.0 term))
    (rw (some-after h.first rest h.value.0 term)
    (ap (λ (xs : List ℕ). terms_from (length xs) false (pos 0) xs) (sym whole)
    ∙ terms_from-again (length (terms_text (h.first ∷ h.others))) false (pos 0) h.first h.others total (omega (arith, many)) zero_duration h.value))

iso-parts : (negative : Bool) (parts : List ℕ) (n : ℕ) → IsDuration (with_sign negative n) → AreDays parts n ⊎ AreDaysAndTime parts n
    → iso_from negative parts ≡ Ok (with_sign negative n)
iso-parts negative parts n in_range (inl h) = iso_from-days negative parts n h in_range
iso-parts negative parts n in_range (inr h) = iso_from-time negative parts n h in_range

iso-again : (text : List ℕ) (total : ℤ) → IsDuration total → DerivesIso text total → nanoseconds_in text ≡ Ok total
iso-again text total in_range h =
    let negative = is_negative false h.sign in
    let no_sign : NoSign (80 ∷ h.parts) = record { minus = refl; plus = refl } in
    signed-reading text h.before h.sign (80 ∷ h.parts) h.spelled (stops h.sign h.parts) no_sign
    ∙ iso-parts negative h.parts h.nanoseconds (subst (λ (z : ℤ). IsDuration z) h.signed in_range) h.value
    ∙ ap Ok (sym h.signed) where
      stops : (sign : Sign) (parts : List ℕ) → Stops is_blank (sign_text sign ++ (80 ∷ parts))
      stops Unsigned parts = refl
      stops Plus parts = refl
      stops Minus parts = refl

pub nanoseconds_in-again : (text : List ℕ) (total : ℤ) → Derives text total → nanoseconds_in text ≡ Ok total
nanoseconds_in-again text total (in_range, inl h) = terms-again text total h
nanoseconds_in-again text total (in_range, inr (inl h)) = seconds-again text total in_range h
nanoseconds_in-again text total (in_range, inr (inr h)) = iso-again text total in_range h

-- ---- with the place of a fault

pub reading_of-again : (text : List ℕ) (n : ℤ) → Derives text n → reading_of text ≡ Ok n
unfolding reading_of
reading_of-again text n h = rw (nanoseconds_in-again text n h) refl

-- what is read is derived
pub nanoseconds_in-derived : (text : List ℕ) (r : Result ℤ Stop) → r ≡ nanoseconds_in text → IfOk r (λ n. IsDuration n) → IfOk r (λ n. Derives text n)
nanoseconds_in-derived text (Ok n) e in_range = nanoseconds_in-ok text n in_range (sym e)
nanoseconds_in-derived text (Err stop) e in_range = tt

-- what is derived is read
pub reading_of-only : (text : List ℕ) (r : Result ℤ DurationRefusal) → r ≡ reading_of text → (n : ℤ) → Derives text n → r ≡ Ok n
reading_of-only text r e n h = e ∙ reading_of-again text n h
