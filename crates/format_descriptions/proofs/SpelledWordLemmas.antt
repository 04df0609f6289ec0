-- Words and names: those that are read are spelled, in their case or in any, and those that are spelled are read.
use Rattle.std.proofs.Common.{◌≡◌, ◌∙◌, ℕ, zero, suc, ◌<◌, ◌≤◌, Bool, true, false, List, [], ◌∷◌, ◌++◌, ◌==◌}
use Rattle.std.proofs.Common.{Option, Some, None, refl, sym, ap, inl, inr, nat_eq, arith}
use Rattle.std.specs.Char.{is_ascii_digit, to_ascii_lowercase}
use Rattle.std.specs.Option.{option_map}
use Rattle.std.specs.Prelude.{is_some}
use Rattle.std.specs.Str.{str_to_ascii_lowercase}
use Rattle.std.proofs.lemmas.Bool.{cases_Bool, eqb-true}
use Rattle.std.proofs.lemmas.Bool.Decides.{nat_tests}
use Rattle.std.proofs.lemmas.List.{map-append}
use Rattle.rfc3339.specs.Reading.{◌>>=◌, digit_at}
use Rattle.format_descriptions.specs.Names.{name_of_month, name_of_weekday}
use Rattle.format_descriptions.specs.Reading.{is_letter, letter_at, word_at, named, half_of, month_at, weekday_at, period_at}
use Rattle.format_descriptions.specs.SpelledPieces.{IsWord, first_hour}
use Rattle.format_descriptions.specs.Written.{name_in_form, period_text}
use Rattle.format_descriptions.specs.declared.modifiers.Case.{Case}
use Rattle.format_descriptions.specs.declared.modifiers.NameForm.{NameForm}
use Rattle.format_descriptions.specs.declared.modifiers.ReadCase.{ReadCase}
use Rattle.format_descriptions.specs.declared.modifiers.ReadCase.TheVariants.{Same, Any}
use Rattle.format_descriptions.proofs.NameReadLemmas.{month-named, weekday-named}
use Rattle.format_descriptions.proofs.NameAgainLemmas.{month-again, weekday-again, period-again, no_digit-month, no_digit-weekday}
use Rattle.format_descriptions.proofs.NameAgainLemmas.{no_digit-period}
use Rattle.format_descriptions.proofs.SpelledDigitLemmas.{Piece, no_digit-seen}

-- ---- words

-- a letter in its case is at the front of the text, and so is a word
letter-spelled : (letter : ℕ) (text rest : List ℕ) → letter_at Same letter text ≡ Some rest → text ≡ letter ∷ rest
unfolding letter_at
letter-spelled letter [] rest h = absurd cc
letter-spelled letter (first ∷ text) rest h = elim (cases_Bool (first == letter)) [
  | inl t ↦
      let same : first ≡ letter = grind (arith, nat_tests, t) in
      let behind : text ≡ rest = let e = rw t at h in cc in rw (same, behind) refl
  | inr f ↦ let e = rw f at h in absurd cc
]

word-on : (letter : ℕ) (word text rest : List ℕ) (o : Option (List ℕ)) → letter_at Same letter text ≡ o
    → ((t r : List ℕ) → word_at Same word t ≡ Some r → t ≡ word ++ r) → (o >>= λ more. word_at Same word more) ≡ Some rest → text ≡ letter ∷ word ++ rest
word-on letter word text rest None e others h = absurd cc
word-on letter word text rest (Some more) e others h = rw (letter-spelled letter text more e, others more rest h) refl

word-spelled : (word text rest : List ℕ) → word_at Same word text ≡ Some rest → text ≡ word ++ rest
unfolding word_at
word-spelled [] text rest h = cc
word-spelled (letter ∷ word) text rest h = word-on letter word text rest (letter_at Same letter text) refl (λ t r e. word-spelled word t r e) h

any_word-taken : (word text rest : List ℕ) → word_at Any word text ≡ Some rest → Piece (IsWord Any word) text rest
unfolding word_at letter_at
any_word-taken [] text rest h =
    let same : text ≡ rest = cc in record { piece = []; front = same; is = refl }
any_word-taken (letter ∷ word) [] rest h = absurd cc
any_word-taken (letter ∷ word) (first ∷ text) rest h = elim (cases_Bool (is_letter Any first letter)) [
  | inl t ↦
      let others : word_at Any word text ≡ Some rest = rw t at h in
      let got = any_word-taken word text rest others in
      let same : to_ascii_lowercase first ≡ to_ascii_lowercase letter = eqb-true (to_ascii_lowercase first) (to_ascii_lowercase letter) t in
      record {
        piece = first ∷ got.piece;
        front = ap (λ (z : List ℕ). first ∷ z) got.front;
        is = ap (λ (z : ℕ). z ∷ str_to_ascii_lowercase got.piece) same
            ∙ ap (λ (z : List ℕ). to_ascii_lowercase letter ∷ z) got.is;
      }
  | inr f ↦ let is = rw f at h in absurd cc
]

pub word-taken : (case : ReadCase) (word text rest : List ℕ) → word_at case word text ≡ Some rest → Piece (IsWord case word) text rest
word-taken Same word text rest h = record { piece = word; front = word-spelled word text rest h; is = refl }
word-taken Any word text rest h = any_word-taken word text rest h

same_word-again : (word rest : List ℕ) → word_at Same word (word ++ rest) ≡ Some rest
unfolding word_at letter_at
same_word-again [] rest = refl
same_word-again (letter ∷ word) rest =
    let same : nat_eq letter letter ≡ true = grind (arith, nat_tests) in rw same (same_word-again word rest)

equal-letters : (a b : ℕ) → a ≡ b → nat_eq a b ≡ true
equal-letters a b e = grind (arith, nat_tests, e)

heads : (a b : ℕ) (x y : List ℕ) → a ∷ x ≡ b ∷ y → (a ≡ b) × (x ≡ y)
heads a b x y e = (cc, cc)

any_word-again : (word piece rest : List ℕ) → str_to_ascii_lowercase piece ≡ str_to_ascii_lowercase word
    → word_at Any word (piece ++ rest) ≡ Some rest
unfolding word_at letter_at
any_word-again [] [] rest e = refl
any_word-again [] (first ∷ piece) rest e = absurd cc
any_word-again (letter ∷ word) [] rest e = absurd cc
any_word-again (letter ∷ word) (first ∷ piece) rest e =
    let both =
    heads (to_ascii_lowercase first) (to_ascii_lowercase letter) (str_to_ascii_lowercase piece) (str_to_ascii_lowercase word) e
    in
    let same : is_letter Any first letter ≡ true = equal-letters (to_ascii_lowercase first) (to_ascii_lowercase letter) both.0 in
    rw same (any_word-again word piece rest both.1)

pub word-again : (case : ReadCase) (word piece rest : List ℕ) → IsWord case word piece → word_at case word (piece ++ rest) ≡ Some rest
word-again Same word piece rest is = rw is (same_word-again word rest)
word-again Any word piece rest is = any_word-again word piece rest is

-- ---- texts that differ in their case alone have the same words

tests-alike : (a b letter : ℕ) → a ≡ b → nat_eq a letter ≡ nat_eq b letter
tests-alike a b letter e = ap (λ (z : ℕ). nat_eq z letter) e

words-alike : (word a b : List ℕ) → str_to_ascii_lowercase a ≡ str_to_ascii_lowercase b
    → is_some (word_at Any word a) ≡ is_some (word_at Any word b)
unfolding word_at letter_at
words-alike [] a b e = refl
words-alike (letter ∷ word) [] [] e = refl
words-alike (letter ∷ word) [] (y ∷ b) e = absurd cc
words-alike (letter ∷ word) (x ∷ a) [] e = absurd cc
words-alike (letter ∷ word) (x ∷ a) (y ∷ b) e =
    let both = heads (to_ascii_lowercase x) (to_ascii_lowercase y) (str_to_ascii_lowercase a) (str_to_ascii_lowercase b) e in
    let test : is_letter Any x letter ≡ is_letter Any y letter =
    tests-alike (to_ascii_lowercase x) (to_ascii_lowercase y) (to_ascii_lowercase letter) both.0
    in
    elim (cases_Bool (is_letter Any y letter)) [
      | inl t ↦ rw (test, t) (words-alike word a b both.1)
      | inr f ↦ rw (test, f) refl
    ]

-- the number of a name that was read
abbrev number_read : {A : Type 0} → Option (A × List ℕ) → Option A
number_read o = option_map (λ read. read.0) o

named-alike : (n : ℕ) (others most : Option (ℕ × List ℕ)) (a b : Option (List ℕ)) → number_read others ≡ number_read most
    → is_some a ≡ is_some b
    → number_read (named n others a) ≡ number_read (named n most b)
named-alike n others most None None e same = e
named-alike n others most None (Some rest) e same = absurd cc
named-alike n others most (Some rest) None e same = absurd cc
named-alike n others most (Some rest) (Some more) e same = refl

months-alike : (form : NameForm) (k : ℕ) (a b : List ℕ) → str_to_ascii_lowercase a ≡ str_to_ascii_lowercase b
    → number_read (month_at form Any k a) ≡ number_read (month_at form Any k b)
unfolding month_at
months-alike form zero a b e = refl
months-alike form (suc k) a b e =
    let word = name_in_form form (name_of_month (suc k)) in
    named-alike (suc k) (month_at form Any k a) (month_at form Any k b)
    (word_at Any word a) (word_at Any word b) (months-alike form k a b e)
    (words-alike word a b e)

weekdays-alike : (form : NameForm) (k : ℕ) (a b : List ℕ) → str_to_ascii_lowercase a ≡ str_to_ascii_lowercase b
    → number_read (weekday_at form Any k a) ≡ number_read (weekday_at form Any k b)
unfolding weekday_at
weekdays-alike form zero a b e = refl
weekdays-alike form (suc k) a b e =
    let word = name_in_form form (name_of_weekday k) in
    named-alike k (weekday_at form Any k a) (weekday_at form Any k b)
    (word_at Any word a) (word_at Any word b) (weekdays-alike form k a b e)
    (words-alike word a b e)

halves-alike : (a b c d : Option (List ℕ)) → is_some a ≡ is_some c → is_some b ≡ is_some d
    → number_read (half_of a b) ≡ number_read (half_of c d)
halves-alike (Some rest) b (Some more) d first second = refl
halves-alike (Some rest) b None d first second = absurd cc
halves-alike None b (Some more) d first second = absurd cc
halves-alike None (Some rest) None (Some more) first second = refl
halves-alike None (Some rest) None None first second = absurd cc
halves-alike None None None (Some more) first second = absurd cc
halves-alike None None None None first second = refl

periods-alike : (case : Case) (a b : List ℕ) → str_to_ascii_lowercase a ≡ str_to_ascii_lowercase b
    → number_read (period_at case Any a) ≡ number_read (period_at case Any b)
unfolding period_at
periods-alike case a b e =
    halves-alike (word_at Any (period_text case 0) a) (word_at Any (period_text case 12) a) (word_at Any (period_text case 0) b)
    (word_at Any (period_text case 12) b) (words-alike (period_text case 0) a b e) (words-alike (period_text case 12) a b e)

-- the number is that of the same text in another case
read-alike : {A : Type 0} (n : A) (rest : List ℕ) (o : Option (A × List ℕ)) → number_read (Some (n, rest)) ≡ number_read o
    → (more : List ℕ) × (o ≡ Some (n, more))
read-alike n rest None e = absurd cc
read-alike n rest (Some read) e =
    let same : n ≡ read.0 = cc in (read.1, ap (λ k. Some (k, read.1)) (sym same))

text-alike : (word piece rest : List ℕ) → str_to_ascii_lowercase piece ≡ str_to_ascii_lowercase word
    → str_to_ascii_lowercase (word ++ rest) ≡ str_to_ascii_lowercase (piece ++ rest)
text-alike word piece rest e =
    map-append (λ c. to_ascii_lowercase c) word rest
    ∙ ap (λ (z : List ℕ). z ++ str_to_ascii_lowercase rest) (sym e) ∙ sym (map-append (λ c. to_ascii_lowercase c) piece rest)

-- ---- the names of months and of days of the week, and the halves of the day

-- one text has one rest behind a word
same_rest : (o : Option (List ℕ)) (a b : List ℕ) → o ≡ Some a → o ≡ Some b → a ≡ b
same_rest o a b e f = let both : Some a ≡ Some b = sym e ∙ f in cc

pub months-again : (form : NameForm) (case : ReadCase) (n : ℕ) (piece rest : List ℕ) → 1 ≤ n → n ≤ 12
    → IsWord case (name_in_form form (name_of_month n)) piece → month_at form case 12 (piece ++ rest) ≡ Some (n, rest)
months-again form Same n piece rest low high is = rw is (month-again form Same n rest low high)
months-again form Any n piece rest low high is =
    let word = name_in_form form (name_of_month n) in
    let alike = months-alike form 12 (word ++ rest) (piece ++ rest) (text-alike word piece rest is) in
    let whole = ap (λ (o : Option (ℕ × List ℕ)). number_read o) (sym (month-again form Any n rest low high)) ∙ alike in
    let got = read-alike n rest (month_at form Any 12 (piece ++ rest)) whole in
    let name = (month-named form Any 12 n (piece ++ rest) got.0 got.1).name_read in
    got.1 ∙ ap (λ (z : List ℕ). Some (n, z)) (same_rest _ got.0 rest name (any_word-again word piece rest is))

pub weekdays-again : (form : NameForm) (case : ReadCase) (n : ℕ) (piece rest : List ℕ) → n < 7
    → IsWord case (name_in_form form (name_of_weekday n)) piece → weekday_at form case 7 (piece ++ rest) ≡ Some (n, rest)
weekdays-again form Same n piece rest low is = rw is (weekday-again form Same n rest low)
weekdays-again form Any n piece rest low is =
    let word = name_in_form form (name_of_weekday n) in
    let alike = weekdays-alike form 7 (word ++ rest) (piece ++ rest) (text-alike word piece rest is) in
    let whole = ap (λ (o : Option (ℕ × List ℕ)). number_read o) (sym (weekday-again form Any n rest low)) ∙ alike in
    let got = read-alike n rest (weekday_at form Any 7 (piece ++ rest)) whole in
    let name = (weekday-named form Any 7 n (piece ++ rest) got.0 got.1).name_read in
    got.1 ∙ ap (λ (z : List ℕ). Some (n, z)) (same_rest _ got.0 rest name (any_word-again word piece rest is))

-- the half of the day that is read, and its word
half-named : (case : Case) (read : ReadCase) (text : List ℕ) (a b : Option (List ℕ)) (n : Bool × ℕ) (rest : List ℕ)
    → word_at read (period_text case 0) text ≡ a → word_at read (period_text case 12) text ≡ b → half_of a b ≡ Some (n, rest)
    → (n.1 ≡ 0) × (word_at read (period_text case (first_hour n.0)) text ≡ Some rest)
half-named case read text (Some more) b n rest ea eb h =
    let pair : ((false, 0), more) ≡ (n, rest) = cc in
    let half : n.0 ≡ false = sym (ap (λ (z : (Bool × ℕ) × List ℕ). z.0.0) pair) in
    (sym (ap (λ (z : (Bool × ℕ) × List ℕ). z.0.1) pair), rw half (ea ∙ ap (λ (z : (Bool × ℕ) × List ℕ). Some z.1) pair))
half-named case read text None (Some more) n rest ea eb h =
    let pair : ((true, 0), more) ≡ (n, rest) = cc in
    let half : n.0 ≡ true = sym (ap (λ (z : (Bool × ℕ) × List ℕ). z.0.0) pair) in
    (sym (ap (λ (z : (Bool × ℕ) × List ℕ). z.0.1) pair), rw half (eb ∙ ap (λ (z : (Bool × ℕ) × List ℕ). Some z.1) pair))
half-named case read text None None n rest ea eb h = absurd cc

pub period-named : (case : Case) (read : ReadCase) (text : List ℕ) (n : Bool × ℕ) (rest : List ℕ)
    → period_at case read text ≡ Some (n, rest)
    → (n.1 ≡ 0) × (word_at read (period_text case (first_hour n.0)) text ≡ Some rest)
unfolding period_at
period-named case read text n rest h =
    half-named case read text (word_at read (period_text case 0) text) (word_at read (period_text case 12) text) n rest refl refl h

period-first : (case : Case) (read : ReadCase) (b : Bool) (rest : List ℕ)
    → period_at case read (period_text case (first_hour b) ++ rest) ≡ Some ((b, 0), rest)
period-first case read true rest = period-again case read 12 rest
period-first case read false rest = period-again case read 0 rest

pub periods-again : (case : Case) (read : ReadCase) (b : Bool) (piece rest : List ℕ) → IsWord read (period_text case (first_hour b)) piece
    → period_at case read (piece ++ rest) ≡ Some ((b, 0), rest)
periods-again case Same b piece rest is = rw is (period-first case Same b rest)
periods-again case Any b piece rest is =
    let word = period_text case (first_hour b) in
    let alike = periods-alike case (word ++ rest) (piece ++ rest) (text-alike word piece rest is) in
    let whole = ap (λ (o : Option ((Bool × ℕ) × List ℕ)). number_read o) (sym (period-first case Any b rest)) ∙ alike in
    let got = read-alike (b, 0) rest (period_at case Any (piece ++ rest)) whole in
    let name = (period-named case Any (piece ++ rest) (b, 0) got.0 got.1).1 in
    got.1 ∙ ap (λ (z : List ℕ). Some ((b, 0), z)) (same_rest _ got.0 rest name (any_word-again word piece rest is))

-- ---- a word does not begin with a digit, in any case

lowercase-digit : (c : ℕ) → is_ascii_digit (to_ascii_lowercase c) ≡ is_ascii_digit c
lowercase-digit c = grind (arith, nat_tests)

digits-alike : (a b : ℕ) → to_ascii_lowercase a ≡ to_ascii_lowercase b → is_ascii_digit a ≡ is_ascii_digit b
digits-alike a b e = sym (lowercase-digit a) ∙ ap (λ (z : ℕ). is_ascii_digit z) e ∙ lowercase-digit b

no_digit-first : (c : ℕ) (text : List ℕ) → digit_at (c ∷ text) ≡ None → is_ascii_digit c ≡ false
unfolding digit_at
no_digit-first c text h = elim (cases_Bool (is_ascii_digit c)) [
  | inl t ↦ let is = rw t at h in absurd cc
  | inr f ↦ f
]

any_word-no_digit : (word piece rest : List ℕ) → str_to_ascii_lowercase piece ≡ str_to_ascii_lowercase word → digit_at (word ++ rest) ≡ None
    → digit_at (piece ++ rest) ≡ None
any_word-no_digit [] [] rest e h = h
any_word-no_digit [] (b ∷ piece) rest e h = absurd cc
any_word-no_digit (a ∷ word) [] rest e h = absurd cc
any_word-no_digit (a ∷ word) (b ∷ piece) rest e h =
    let both = heads (to_ascii_lowercase b) (to_ascii_lowercase a) (str_to_ascii_lowercase piece) (str_to_ascii_lowercase word) e in
    no_digit-seen b (piece ++ rest) (digits-alike b a both.0 ∙ no_digit-first a (word ++ rest) h)

word-no_digit : (case : ReadCase) (word piece rest : List ℕ) → IsWord case word piece → digit_at (word ++ rest) ≡ None
    → digit_at (piece ++ rest) ≡ None
word-no_digit Same word piece rest is h = rw is h
word-no_digit Any word piece rest is h = any_word-no_digit word piece rest is h

pub month-no_digit : (form : NameForm) (case : ReadCase) (n : ℕ) (piece rest : List ℕ)
    → IsWord case (name_in_form form (name_of_month n)) piece
    → digit_at (piece ++ rest) ≡ None
month-no_digit form case n piece rest is =
    word-no_digit case (name_in_form form (name_of_month n)) piece rest is (no_digit-month form n rest)

pub weekday-no_digit : (form : NameForm) (case : ReadCase) (n : ℕ) (piece rest : List ℕ)
    → IsWord case (name_in_form form (name_of_weekday n)) piece
    → digit_at (piece ++ rest) ≡ None
weekday-no_digit form case n piece rest is =
    word-no_digit case (name_in_form form (name_of_weekday n)) piece rest is (no_digit-weekday form n rest)

pub period-no_digit : (case : Case) (read : ReadCase) (hour : ℕ) (piece rest : List ℕ) → IsWord read (period_text case hour) piece
    → digit_at (piece ++ rest) ≡ None
period-no_digit case read hour piece rest is = word-no_digit read (period_text case hour) piece rest is (no_digit-period case hour rest)
