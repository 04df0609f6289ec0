-- What each status is called and says, it alone does, in ASCII that prints and in so many bytes.
use Rattle.std.proofs.Common.{◌≡◌, ◌⊎◌, inl, inr, ℕ, zero, suc, ◌<◌, ◌≤◌, Bool, true, false}
use Rattle.std.proofs.Common.{nat_eq, nat_lt, List, length, refl, sym, ap, ◌∙◌, arith, Option, Some, None}
use Rattle.std.specs.Prelude.{◌==◌, ◌&&◌, if◌then◌else◌}
use Rattle.std.specs.Cmp.Lexicographic.{pointwise}
use Rattle.std.proofs.lemmas.Bool.Decides.{nat_tests}
use Rattle.std.proofs.lemmas.Bool.{cases_Bool, eqb-true, and_parts}
use Rattle.muxandu_c.specs.Answers.{status_number}
use Rattle.muxandu_c.specs.StatusTexts.{is_plain, refused_numbered, status_name, status_words, name_of_numbered, words_of_numbered}
use Rattle.muxandu_c.specs.declared.refused.Refused.{Refused}
use Rattle.muxandu_c.specs.declared.refused.Refused.TheVariants as refused

-- the number below a bound of which this is the text, or 29
abbrev number_of : (ℕ → List ℕ) → ℕ → List ℕ → ℕ
number_of f zero text = 29
number_of f (suc n) text = if pointwise nat_eq (f n) text then n else number_of f n text

abbrev are_all_below : ℕ → (ℕ → Bool) → Bool
are_all_below zero f = true
are_all_below (suc n) f = f n && are_all_below n f

one_of_all : (n : ℕ) (f : ℕ → Bool) (k : ℕ) → are_all_below n f ≡ true → k < n → f k ≡ true
one_of_all zero f k all low = absurd (omega arith)
one_of_all (suc n) f k all low =
    let both = and_parts (f n) (are_all_below n f) all in
    elim (cases_Bool (nat_eq k n)) [
      | inl t ↦ rw (eqb-true k n t) both.0
      | inr t ↦ let lower : k < n = grind (arith, nat_tests) in one_of_all n f k both.1 lower
    ]

-- a table of 29 texts, each of one number, and of another text for all numbers above
record IsTable (f : ℕ → List ℕ) : Type 0 where
  each : are_all_below 30 (λ n. number_of f 29 (f n) == n) ≡ true
  above : (n : ℕ) → 28 < n → f n ≡ f 29

number_again : (f : ℕ → List ℕ) (n : ℕ) → IsTable f → n ≤ 29 → number_of f 29 (f n) ≡ n
number_again f n h low = eqb-true (number_of f 29 (f n)) n (one_of_all 30 (λ n. number_of f 29 (f n) == n) n h.each (omega arith))

told_apart : (f : ℕ → List ℕ) (a b : ℕ) → IsTable f → f a ≡ f b → (a ≡ b) ⊎ ((28 < a) × (28 < b))
told_apart f a b h e =
    elim (cases_Bool (nat_lt 28 a)) [
      | inl ta ↦ (
          let above_a : 28 < a = grind (arith, nat_tests) in
          elim (cases_Bool (nat_lt 28 b)) [
            | inl tb ↦ inr (above_a, grind (arith, nat_tests))
            | inr tb ↦
                let low : b ≤ 28 = grind (arith, nat_tests) in
                let same = sym (number_again f 29 h (omega arith)) ∙ ap (number_of f 29) (sym (h.above a above_a) ∙ e)
                ∙ number_again f b h (omega arith) in
                absurd (omega (arith, same))
          ]
          )
      | inr ta ↦ (
          let low_a : a ≤ 28 = grind (arith, nat_tests) in
          elim (cases_Bool (nat_lt 28 b)) [
            | inl tb ↦
                let above_b : 28 < b = grind (arith, nat_tests) in
                let same = sym (number_again f a h (omega arith)) ∙ ap (number_of f 29) (e ∙ h.above b above_b)
                ∙ number_again f 29 h (omega arith) in
                absurd (omega (arith, same))
            | inr tb ↦
                let low_b : b ≤ 28 = grind (arith, nat_tests) in
                inl (sym (number_again f a h (omega arith)) ∙ ap (number_of f 29) e ∙ number_again f b h (omega arith))
          ]
          )
    ]

refused_numbered-above : (n : ℕ) → 28 < n → refused_numbered n ≡ None
refused_numbered-above n h = grind (arith, nat_tests)

names : IsTable status_name
names = record {
  each = refl;
  above = λ n h. (
      let other : nat_eq n 0 ≡ false = grind (arith, nat_tests) in rw other (ap name_of_numbered (refused_numbered-above n h))
      );
}

words : IsTable status_words
words = record {
  each = refl;
  above = λ n h. (
      let other : nat_eq n 0 ≡ false = grind (arith, nat_tests) in rw other (ap words_of_numbered (refused_numbered-above n h))
      );
}

pub names_tell : (a b : ℕ) → status_name a ≡ status_name b → (a ≡ b) ⊎ ((28 < a) × (28 < b))
names_tell a b e = told_apart status_name a b names e

pub words_tell : (a b : ℕ) → status_words a ≡ status_words b → (a ≡ b) ⊎ ((28 < a) × (28 < b))
words_tell a b e = told_apart status_words a b words e

-- each text of a table is of ASCII that prints, and has at most so many bytes
abbrev are_plain : (ℕ → List ℕ) → ℕ → Bool
are_plain f most = are_all_below 30 (λ n. is_plain (f n) && nat_lt (length (f n)) (suc most))

plain_below : (f : ℕ → List ℕ) (most n : ℕ) → are_plain f most ≡ true → n ≤ 29 → (is_plain (f n) ≡ true) × (length (f n) ≤ most)
plain_below f most n all low =
    let one = one_of_all 30 (λ n. is_plain (f n) && nat_lt (length (f n)) (suc most)) n all (omega arith) in
    let both = and_parts (is_plain (f n)) (nat_lt (length (f n)) (suc most)) one in
    let short = both.1 in
    (both.0, grind (arith, nat_tests))

plain : (f : ℕ → List ℕ) (most n : ℕ) → IsTable f → are_plain f most ≡ true → (is_plain (f n) ≡ true) × (length (f n) ≤ most)
plain f most n h all =
    elim (cases_Bool (nat_lt 28 n)) [
      | inl t ↦ let above : 28 < n = grind (arith, nat_tests) in rw (h.above n above) (plain_below f most 29 all (omega arith))
      | inr t ↦ let low : n ≤ 29 = grind (arith, nat_tests) in plain_below f most n all low
    ]

pub names_are_plain : (n : ℕ) → (is_plain (status_name n) ≡ true) × (length (status_name n) ≤ 15)
names_are_plain n = plain status_name 15 n names refl

pub words_are_plain : (n : ℕ) → (is_plain (status_words n) ≡ true) × (length (status_words n) ≤ 128)
words_are_plain n = plain status_words 128 n words refl

-- the error of the number of an error is that error
pub refused_numbered-again : (e : Refused) → refused_numbered (status_number e) ≡ Some e
refused_numbered-again refused.Year = refl
refused_numbered-again e = refl

-- the number is that of the error, if there is one
abbrev is_number_of : Option Refused → ℕ → Bool
is_number_of None n = true
is_number_of (Some e) n = status_number e == n

-- a number has at most one error
pub refused_numbered-is : (n : ℕ) (e : Refused) → refused_numbered n ≡ Some e → status_number e ≡ n
refused_numbered-is n e h =
    elim (cases_Bool (nat_lt 28 n)) [
      | inl t ↦ no_error n e (sym (refused_numbered-above n (grind (arith, nat_tests))) ∙ h)
      | inr t ↦
          let low : n < 29 = grind (arith, nat_tests) in
          let tested = one_of_all 29 (λ k. is_number_of (refused_numbered k) k) n refl low in
          eqb-true (status_number e) n (sym (ap (λ (o : Option Refused). is_number_of o n) h) ∙ tested)
    ] where
      no_error : (n : ℕ) (e : Refused) → ◌≡◌ {A = Option Refused} None (Some e) → status_number e ≡ n
      no_error n e h = absurd cc
