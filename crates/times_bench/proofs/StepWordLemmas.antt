-- The words of a chain, and how they read.
use Rattle.std.proofs.Common.{◌≡◌, ◌≢◌, ℕ, ◌+◌, ◌*◌, ◌≤◌, Bool, true, false, cond, ◌==◌, nat_eq, get_or, List, [], ◌∷◌, length, refl, sym}
use Rattle.std.proofs.Common.{◌∙◌, ap, arith, ℤ, pos, neg_ℤ, Option, Some, None, Result, subst}
use Rattle.std.specs.List.{join_with_byte}
use Rattle.std.specs.Option.{is_some, option_map, option_and_then}
use Rattle.std.specs.Prelude.{OkIff}
use Rattle.std.specs.Result.{result_ok}
use Rattle.std.proofs.lemmas.Bool.Decides.{nat_tests}
use Rattle.std.proofs.lemmas.List.Splits.{join_with_byte-slice_split}
use Rattle.std.proofs.lemmas.Result.{Ok-from_Ok_iff}
use Rattle.calendar_values.specs.Offsets.{IsOffset}
use Rattle.times_bench.specs.StepWords.{two_digits, seconds_of_words, parse_offset}
use Rattle.times_bench.specs.Words.{cut_at, exactly_one, exactly_two, exactly_three}
use Rattle.times_bench.proofs.WordLemmas.{length-cut_at}

-- the number of two digits has two bytes, and both are digits
two_digits-length : (most : ℕ) (text : List ℕ) → is_some (two_digits most text) ≡ true → length text ≡ 2
unfolding two_digits
two_digits-length most [] e = absurd cc
two_digits-length most (tens ∷ []) e = absurd cc
two_digits-length most (tens ∷ units ∷ []) e = refl
two_digits-length most (tens ∷ units ∷ next ∷ text) e = absurd cc

pub two_digits-digits : (most tens units : ℕ) → is_some (two_digits most (tens ∷ units ∷ [])) ≡ true → (tens ≢ 58) × (units ≢ 58)
unfolding two_digits
two_digits-digits most tens units e = (grind (arith, nat_tests), grind (arith, nat_tests))

pair_of : (text : List ℕ) → length text ≡ 2 → text ≡ get_or text 0 0 ∷ get_or text 1 0 ∷ []
pair_of [] e = absurd (omega (arith, e))
pair_of (tens ∷ []) e = absurd (omega (arith, e))
pair_of (tens ∷ units ∷ []) e = refl
pair_of (tens ∷ units ∷ next ∷ text) e = absurd (omega (arith, e))

-- a text of eight bytes, with `:` as the third and as the sixth
abbrev pub clock_text : ℕ → ℕ → ℕ → ℕ → ℕ → ℕ → List ℕ
clock_text h i m n s t = h ∷ i ∷ 58 ∷ m ∷ n ∷ 58 ∷ s ∷ t ∷ []

pub clock_text-is : (text : List ℕ) → length text ≡ 8 → get_or text 2 0 ≡ 58 → get_or text 5 0 ≡ 58
    → text ≡ clock_text (get_or text 0 0) (get_or text 1 0) (get_or text 3 0) (get_or text 4 0) (get_or text 6 0) (get_or text 7 0)
clock_text-is [] e p q = absurd (omega (arith, e))
clock_text-is (a ∷ []) e p q = absurd (omega (arith, e))
clock_text-is (a ∷ b ∷ []) e p q = absurd (omega (arith, e))
clock_text-is (a ∷ b ∷ c ∷ []) e p q = absurd (omega (arith, e))
clock_text-is (a ∷ b ∷ c ∷ d ∷ []) e p q = absurd (omega (arith, e))
clock_text-is (a ∷ b ∷ c ∷ d ∷ x ∷ []) e p q = absurd (omega (arith, e))
clock_text-is (a ∷ b ∷ c ∷ d ∷ x ∷ f ∷ []) e p q = absurd (omega (arith, e))
clock_text-is (a ∷ b ∷ c ∷ d ∷ x ∷ f ∷ g ∷ []) e p q = absurd (omega (arith, e))
clock_text-is (a ∷ b ∷ c ∷ d ∷ x ∷ f ∷ g ∷ h ∷ []) e p q = rw (p, q) refl
clock_text-is (a ∷ b ∷ c ∷ d ∷ x ∷ f ∷ g ∷ h ∷ k ∷ text) e p q = absurd (omega (arith, e))

colon_apart : (byte : ℕ) → byte ≢ 58 → (byte == 58) ≡ false
colon_apart byte apart = grind (arith, nat_tests)

-- its three words, where no other byte is `:`
pub cut_at-clock_text : (h i m n s t : ℕ) → (h ≢ 58) × (i ≢ 58) → (m ≢ 58) × (n ≢ 58) → (s ≢ 58) × (t ≢ 58)
    → cut_at 58 (clock_text h i m n s t) ≡ (h ∷ i ∷ []) ∷ (m ∷ n ∷ []) ∷ (s ∷ t ∷ []) ∷ []
cut_at-clock_text h i m n s t hours minutes seconds =
    rw (colon_apart h hours.0, colon_apart i hours.1, colon_apart m minutes.0, colon_apart n minutes.1, colon_apart s seconds.0, colon_apart t seconds.1) refl

-- three words of two digits each make such a text
abbrev pub ReadsAsClock : List ℕ → Type 0
ReadsAsClock text =
    (text ≡ clock_text (get_or text 0 0) (get_or text 1 0) (get_or text 3 0) (get_or text 4 0) (get_or text 6 0) (get_or text 7 0))
    × (is_some (two_digits 25 (get_or text 0 0 ∷ get_or text 1 0 ∷ [])) ≡ true)
    × (is_some (two_digits 59 (get_or text 3 0 ∷ get_or text 4 0 ∷ [])) ≡ true)
    × (is_some (two_digits 59 (get_or text 6 0 ∷ get_or text 7 0 ∷ [])) ≡ true)

joined_pairs : (hours minutes last : List ℕ) (h i m n s t : ℕ) → hours ≡ h ∷ i ∷ [] → minutes ≡ m ∷ n ∷ [] → last ≡ s ∷ t ∷ []
    → is_some (two_digits 25 hours) ≡ true → is_some (two_digits 59 minutes) ≡ true → is_some (two_digits 59 last) ≡ true
    → ReadsAsClock (join_with_byte 58 (hours ∷ minutes ∷ last ∷ []))
joined_pairs hours minutes last h i m n s t a b c p q r =
    let first = rw a at p in
    let second = rw b at q in
    let third = rw c at r in
    rw (a, b, c) (refl, first, second, third)

all_some : {C : Type 0} (first second third : Option ℕ) (make : ℕ → ℕ → ℕ → C) (value : C)
    → option_and_then (λ h. option_and_then (λ m. option_map (λ s. make h m s) third) second) first ≡ Some value
    → (is_some first ≡ true) × (is_some second ≡ true) × (is_some third ≡ true)
all_some None second third make value e = absurd cc
all_some (Some h) None third make value e = absurd cc
all_some (Some h) (Some m) None make value e = absurd cc
all_some (Some h) (Some m) (Some s) make value e = (refl, refl, refl)

seconds_of_words-clock : (words : List (List ℕ)) (seconds : ℤ) → seconds_of_words words ≡ Some seconds → ReadsAsClock (join_with_byte 58 words)
unfolding seconds_of_words exactly_three exactly_two exactly_one
seconds_of_words-clock [] seconds e = absurd cc
seconds_of_words-clock (hours ∷ []) seconds e = absurd cc
seconds_of_words-clock (hours ∷ minutes ∷ []) seconds e = absurd cc
seconds_of_words-clock (hours ∷ minutes ∷ last ∷ []) seconds e =
    let some = all_some (two_digits 25 hours) (two_digits 59 minutes) (two_digits 59 last) (λ h m s. pos (h * 3_600 + m * 60 + s)) seconds e in
    joined_pairs hours minutes last _ _ _ _ _ _
    (pair_of hours (two_digits-length 25 hours some.0)) (pair_of minutes (two_digits-length 59 minutes some.1))
    (pair_of last (two_digits-length 59 last some.2)) some.0 some.1 some.2
seconds_of_words-clock (hours ∷ minutes ∷ last ∷ next ∷ words) seconds e = absurd cc

-- no other text has seconds
pub no_seconds : (text : List ℕ) → (ReadsAsClock text → ⊥) → seconds_of_words (cut_at 58 text) ≡ None
no_seconds text other = elim (seconds_of_words (cut_at 58 text)) as (λ read. seconds_of_words (cut_at 58 text) ≡ read → read ≡ None) [
  | None ↦ λ _. refl
  | Some seconds ↦ λ is. absurd (other (rw (join_with_byte-slice_split 58 text) at (seconds_of_words-clock (cut_at 58 text) seconds is)))
] refl

pub no_seconds-other : (text : List ℕ) → (length text ≡ 8 → get_or text 2 0 ≡ 58 → get_or text 5 0 ≡ 58 → ⊥) → seconds_of_words (cut_at 58 text) ≡ None
no_seconds-other text other =
    no_seconds text (λ reads. other (ap length reads.0) (ap (λ (t : List ℕ). get_or t 2 0) reads.0) (ap (λ (t : List ℕ). get_or t 5 0) reads.0))

-- the seconds of a text that reads
pub seconds_of_words-read : (text : List ℕ) (hours minutes seconds : ℕ) → length text ≡ 8 → get_or text 2 0 ≡ 58 → get_or text 5 0 ≡ 58
    → Some hours ≡ two_digits 25 (get_or text 0 0 ∷ get_or text 1 0 ∷ []) → Some minutes ≡ two_digits 59 (get_or text 3 0 ∷ get_or text 4 0 ∷ [])
    → Some seconds ≡ two_digits 59 (get_or text 6 0 ∷ get_or text 7 0 ∷ [])
    → Some (pos (hours * 3_600 + minutes * 60 + seconds)) ≡ seconds_of_words (cut_at 58 text)
unfolding seconds_of_words exactly_three exactly_two exactly_one
seconds_of_words-read text hours minutes seconds e p q h m s =
    let words = cut_at-clock_text (get_or text 0 0) (get_or text 1 0) (get_or text 3 0) (get_or text 4 0) (get_or text 6 0) (get_or text 7 0)
    (two_digits-digits 25 _ _ (sym (ap is_some h))) (two_digits-digits 59 _ _ (sym (ap is_some m))) (two_digits-digits 59 _ _ (sym (ap is_some s))) in
    let whole : cut_at 58 text ≡ _ = ap (cut_at 58) (clock_text-is text e p q) ∙ words in
    rw (whole, ← h, ← m, ← s) refl

-- seconds are of three words, so an offset has at least three bytes
seconds_of_words-length : (words : List (List ℕ)) (seconds : ℤ) → seconds_of_words words ≡ Some seconds → 3 ≤ length words
unfolding seconds_of_words exactly_three exactly_two exactly_one
seconds_of_words-length [] seconds e = absurd cc
seconds_of_words-length (hours ∷ []) seconds e = absurd cc
seconds_of_words-length (hours ∷ minutes ∷ []) seconds e = absurd cc
seconds_of_words-length (hours ∷ minutes ∷ last ∷ []) seconds e = omega arith
seconds_of_words-length (hours ∷ minutes ∷ last ∷ next ∷ words) seconds e = absurd cc

-- an offset has at least three bytes
signed_length : (plus minus : Bool) (read : Option ℤ) (text : List ℕ) (seconds : ℤ) → seconds_of_words (cut_at 58 text) ≡ read
    → cond plus read (cond minus (option_map neg_ℤ read) None) ≡ Some seconds → 2 ≤ length text
signed_length plus minus (Some z) text seconds is e = omega (arith, seconds_of_words-length (cut_at 58 text) z is, length-cut_at 58 text)
signed_length true minus None text seconds is e = absurd cc
signed_length false true None text seconds is e = absurd cc
signed_length false false None text seconds is e = absurd cc

pub parse_offset-length : (word : List ℕ) (offset : ℤ) → parse_offset word ≡ Some offset → 3 ≤ length word
unfolding parse_offset
parse_offset-length [] offset e = absurd cc
parse_offset-length (sign ∷ text) offset e =
    omega (arith, signed_length (nat_eq sign 43) (nat_eq sign 45) (seconds_of_words (cut_at 58 text)) text offset refl e)

-- the offset of seconds that lie in its range
pub offset_made : {E : Type 0} (made : Result ℤ E) (z seconds : ℤ) → OkIff made (IsOffset z) z → z ≡ seconds → IsOffset seconds → result_ok made ≡ Some seconds
offset_made made z seconds value e inside = ap result_ok (Ok-from_Ok_iff made (IsOffset z) z value (subst IsOffset (sym e) inside)) ∙ ap Some e
