-- The longest beginning of a text that also begins a text of the form.
use Rattle.std.proofs.Common.{◌≡◌, inl, inr, ℕ, zero, suc, ◌+◌, ◌-◌, ◌*◌, ◌/◌, ◌%◌, ◌≤◌, Bool, true, false, nat_eq, List, [], ◌∷◌, ◌++◌, length, take, drop}
use Rattle.std.proofs.Common.{append_assoc, append-nil, length-append, refl, sym, ap, subst, ◌∙◌, arith}
use Rattle.std.specs.Prelude.{◌⊎◌, ◌&&◌, nat_lt}
use Rattle.std.specs.Char.{is_ascii_digit}
use Rattle.std.proofs.Math.Seq.{take-append_seam}
use Rattle.std.proofs.lemmas.Bool.Decides.{nat_tests}
use Rattle.std.proofs.lemmas.Bool.{and_parts, cases_Bool}
use Rattle.std.proofs.lemmas.List.{take-append-drop, length-take-le}
use Rattle.calendar_values.specs.Digits.{last_digits}
use Rattle.rfc3339.specs.Form.{IsDateTime}
use Rattle.rfc3339.specs.Reading.{parts_at}
use Rattle.rfc3339.specs.TextLemmas.{front_again, parts_again}
use Rattle.rfc3339.specs.declared.parts.Parts.{Parts}
use Rattle.iso_texts.specs.IsoFaults.{has_signed_offset, tens_standing, units_standing, seconds_standing, IsLongest, IsPlain, AreSeconds, IsTail}
use Rattle.iso_texts.proofs.IsoOffsetLemmas.{ended}

-- ---- byte by byte

-- the end of the text
pub longest_end : (G : List ℕ → Type 0) (some : List ℕ) → G some → IsLongest G [] 0
longest_end G some h = record { at_most = omega arith; begins = (some, h); longest = λ k. λ rest. λ low. λ g. low }

-- a byte that may not stand there
pub longest_stop : (G : List ℕ → Type 0) (some : List ℕ) (byte : ℕ) (text : List ℕ) → G some → ((rest : List ℕ) → ¬ (G (byte ∷ rest)))
    → IsLongest G (byte ∷ text) 0
longest_stop G some byte text h none = record { at_most = omega arith; begins = (some, h); longest = longest } where
  longest : (k : ℕ) (rest : List ℕ) → k ≤ length (byte ∷ text) → G (take k (byte ∷ text) ++ rest) → k ≤ 0
  longest zero rest low g = omega arith
  longest (suc k) rest low g = absurd (none (take k text ++ rest) g)

-- a byte that may
pub longest_on : (G : List ℕ → Type 0) (byte : ℕ) (text : List ℕ) (n : ℕ) → IsLongest (λ rest. G (byte ∷ rest)) text n
    → IsLongest G (byte ∷ text) (suc n)
longest_on G byte text n h = record { at_most = omega (arith, h.at_most); begins = h.begins; longest = longest } where
  longest : (k : ℕ) (rest : List ℕ) → k ≤ length (byte ∷ text) → G (take k (byte ∷ text) ++ rest) → k ≤ suc n
  longest zero rest low g = omega arith
  longest (suc k) rest low g = omega (arith, h.longest k rest (omega arith) g)

-- ---- lists

head_is : (x y : ℕ) (a b : List ℕ) → x ∷ a ≡ y ∷ b → x ≡ y
head_is x y a b e = cc

tail_is : (x y : ℕ) (a b : List ℕ) → x ∷ a ≡ y ∷ b → a ≡ b
tail_is x y a b e = cc

-- of two ways to part one list, one cuts the front of the other
pub record Cut (a b c d : List ℕ) : Type 0 where
  pub middle : List ℕ
  pub front : a ≡ c ++ middle
  pub back : d ≡ middle ++ b

pub levi : (a b c d : List ℕ) → a ++ b ≡ c ++ d → Cut c d a b ⊎ Cut a b c d
levi [] b c d e = inl (record { middle = c; front = refl; back = e })
levi (x ∷ a) b [] d e = inr (record { middle = x ∷ a; front = refl; back = sym e })
levi (x ∷ a) b (y ∷ c) d e =
    let head = head_is x y (a ++ b) (c ++ d) e in
    elim (levi a b c d (tail_is x y (a ++ b) (c ++ d) e)) [
      | inl cut ↦ inl (record { middle = cut.middle; front = rw (← head) (ap (λ (z : List ℕ). x ∷ z) cut.front); back = cut.back })
      | inr cut ↦ inr (record { middle = cut.middle; front = rw head (ap (λ (z : List ℕ). y ∷ z) cut.front); back = cut.back })
    ]

none_of_length : (xs : List ℕ) → length xs ≡ 0 → xs ≡ []
none_of_length [] e = refl
none_of_length (x ∷ xs) e = absurd (omega arith)

-- ---- a date-time of RFC 3339, alone

-- no other begins with it
pub no_longer : (front rest : List ℕ) (p q : Parts) → IsDateTime front p → IsDateTime (front ++ rest) q → rest ≡ []
unfolding parts_at
no_longer front rest p q h k =
    let whole = rw (front_again front p rest h) at (parts_again (front ++ rest) q k) in
    (ended p q rest whole).0

-- a date-time and more bytes begin as the text does: then it is the longest beginning of one
pub record IsSeam (text : List ℕ) (m k : ℕ) (rest front after : List ℕ) : Type 0 where
  pub more : List ℕ
  pub whole : take m text ≡ front
  pub size : k ≡ m + length more
  pub here : drop m text ≡ more ++ drop k text
  pub there : after ≡ more ++ rest

seam_of : (text : List ℕ) (m k : ℕ) (rest front after middle last : List ℕ) (p q : Parts) → m ≤ length text → k ≤ length text → IsDateTime front p
    → take k text ≡ front ++ middle → after ≡ middle ++ rest → take m text ≡ front ++ last → drop m text ≡ [] ++ (middle ++ drop k text)
    → last ≡ [] → IsSeam text m k rest front after
seam_of text m k rest front after middle last p q most low h e f g d none =
    let whole : take m text ≡ front = g ∙ ap (λ (z : List ℕ). front ++ z) none ∙ append-nil front in
    record {
      more = middle;
      whole = whole;
      size =
          omega (arith, ap (length {A = ℕ}) e, length-append front middle, length-take-le k text low, ap (length {A = ℕ}) whole, length-take-le m text most);
      here = d;
      there = f;
    }

pub seam : (text : List ℕ) (m k : ℕ) (rest front after : List ℕ) (p : Parts) → IsLongest IsPlain text m → k ≤ length text → IsDateTime front p
    → take k text ++ rest ≡ front ++ after → (k ≤ m) ⊎ IsSeam text m k rest front after
seam text m k rest front after p best low h e =
    elim (levi (take k text) rest front after e) [
      | inl cut ↦ inl (best.longest k cut.middle low (p, subst (λ (z : List ℕ). IsDateTime z p) cut.front h))
      | inr cut ↦
          let most = best.at_most in
          let size : length front + length cut.middle ≡ k =
          sym (length-append front cut.middle) ∙ sym (ap (length {A = ℕ}) cut.front) ∙ length-take-le k text low in
          let text_is : front ++ (cut.middle ++ drop k text) ≡ text =
          sym (append_assoc front cut.middle (drop k text)) ∙ ap (λ (z : List ℕ). z ++ drop k text) (sym cut.front) ∙ take-append-drop k text in
          let first : take (length front) text ≡ front =
          ap (take (length front)) (sym text_is) ∙ take-append_seam front (cut.middle ++ drop k text) in
          let whole : IsPlain (take (length front) text ++ []) =
          (p, subst (λ (z : List ℕ). IsDateTime z p) (sym first ∙ sym (append-nil (take (length front) text))) h) in
          let shorter : length front ≤ length text = omega (arith, size) in
          let upto : length front ≤ m = best.longest (length front) [] shorter whole in
          elim (levi front (cut.middle ++ drop k text) (take m text) (drop m text) (text_is ∙ sym (take-append-drop m text))) [
            | inl other ↦
                let more = best.begins in
                let longer : IsDateTime (front ++ (other.middle ++ more.0)) more.1.0 =
                subst (λ (z : List ℕ). IsDateTime z more.1.0)
                (ap (λ (z : List ℕ). z ++ more.0) other.front ∙ append_assoc front other.middle more.0) more.1.1 in
                let nothing = no_longer front (other.middle ++ more.0) p more.1.0 h longer in
                let none : other.middle ≡ [] =
                none_of_length other.middle (omega (arith, ap (length {A = ℕ}) nothing, length-append other.middle more.0)) in
                let after_it : drop m text ≡ [] ++ (cut.middle ++ drop k text) =
                sym (other.back ∙ ap (λ (z : List ℕ). z ++ drop m text) none) in
                inr (seam_of text m k rest front after cut.middle other.middle p p most low h cut.front cut.back other.front after_it none)
            | inr other ↦
                let none : other.middle ≡ [] =
                none_of_length other.middle
                (omega (arith, upto, ap (length {A = ℕ}) other.front, length-append (take m text) other.middle, length-take-le m text most)) in
                let whole : take m text ≡ front ++ [] =
                sym (append-nil (take m text)) ∙ ap (λ (z : List ℕ). take m text ++ z) (sym none) ∙ sym other.front ∙ sym (append-nil front) in
                let after_it : drop m text ≡ [] ++ (cut.middle ++ drop k text) =
                other.back ∙ ap (λ (z : List ℕ). z ++ (cut.middle ++ drop k text)) none in
                inr (seam_of text m k rest front after cut.middle [] p p most low h cut.front cut.back whole after_it refl)
          ]
    ]

-- ---- the seconds of an offset

second_of_digits : (a b : ℕ) → is_ascii_digit a ≡ true → nat_lt a 54 ≡ true → is_ascii_digit b ≡ true → AreSeconds (58 ∷ a ∷ b ∷ [])
unfolding last_digits
second_of_digits a b d e f = inr ((a - 48) * 10 + (b - 48), grind (arith, nat_tests), grind (arith, nat_tests))

digits_of_second : (a b : ℕ) (rest : List ℕ) → AreSeconds (58 ∷ a ∷ b ∷ rest)
    → (is_ascii_digit a ≡ true) × (nat_lt a 54 ≡ true) × (is_ascii_digit b ≡ true) × (rest ≡ [])
unfolding last_digits
digits_of_second a b rest (inl none) = absurd cc
digits_of_second a b rest (inr some) =
    let a_is : a ≡ 48 + some.0 / 10 % 10 = cc in
    let b_is : b ≡ 48 + some.0 % 10 = cc in
    let rest_is : rest ≡ [] = cc in
    (grind (arith, nat_tests), grind (arith, nat_tests), grind (arith, nat_tests), rest_is)

tens_of_second : (a : ℕ) (rest : List ℕ) → AreSeconds (58 ∷ a ∷ rest) → (is_ascii_digit a && nat_lt a 54) ≡ true
unfolding last_digits
tens_of_second a rest (inl none) = absurd cc
tens_of_second a rest (inr some) =
    let a_is : a ≡ 48 + some.0 / 10 % 10 = cc in
    grind (arith, nat_tests)

colon_of_second : (a : ℕ) (rest : List ℕ) → AreSeconds (a ∷ rest) → nat_eq a 58 ≡ true
colon_of_second a rest (inl none) = absurd cc
colon_of_second a rest (inr some) =
    let a_is : a ≡ 58 = cc in
    grind (arith, nat_tests)

nothing_is : AreSeconds []
nothing_is = inl refl

pub no_true : (b : Bool) → b ≡ false → b ≡ true → ⊥
no_true true e f = absurd cc
no_true false e f = absurd cc

units_longest : (a : ℕ) (text : List ℕ) → is_ascii_digit a ≡ true → nat_lt a 54 ≡ true
    → IsLongest (λ rest. AreSeconds (58 ∷ a ∷ rest)) text (units_standing text)
units_longest a [] d e = longest_end (λ rest. AreSeconds (58 ∷ a ∷ rest)) (48 ∷ []) (second_of_digits a 48 d e refl)
units_longest a (b ∷ text) d e = elim (cases_Bool (is_ascii_digit b)) [
  | inl t ↦ rw t (longest_on (λ rest. AreSeconds (58 ∷ a ∷ rest)) b text 0 (at_end b text t))
  | inr t ↦
      rw t (longest_stop (λ rest. AreSeconds (58 ∷ a ∷ rest)) (48 ∷ []) b text (second_of_digits a 48 d e refl)
      (λ rest. λ g. no_true (is_ascii_digit b) t (digits_of_second a b rest g).2))
] where
  at_end : (b : ℕ) (text : List ℕ) → is_ascii_digit b ≡ true → IsLongest (λ rest. AreSeconds (58 ∷ a ∷ b ∷ rest)) text 0
  at_end b [] t = longest_end (λ rest. AreSeconds (58 ∷ a ∷ b ∷ rest)) [] (second_of_digits a b d e t)
  at_end b (c ∷ text) t =
      longest_stop (λ rest. AreSeconds (58 ∷ a ∷ b ∷ rest)) [] c text (second_of_digits a b d e t)
      (λ rest. λ g. let none = (digits_of_second a b (c ∷ rest) g).3 in absurd cc)

tens_longest : (text : List ℕ) → IsLongest (λ rest. AreSeconds (58 ∷ rest)) text (tens_standing text)
tens_longest [] = longest_end (λ rest. AreSeconds (58 ∷ rest)) (48 ∷ 48 ∷ []) (second_of_digits 48 48 refl refl refl)
tens_longest (a ∷ text) = elim (cases_Bool (is_ascii_digit a && nat_lt a 54)) [
  | inl t ↦
      let both = and_parts (is_ascii_digit a) (nat_lt a 54) t in
      rw t (longest_on (λ rest. AreSeconds (58 ∷ rest)) a text (units_standing text) (units_longest a text both.0 both.1))
  | inr t ↦
      rw t (longest_stop (λ rest. AreSeconds (58 ∷ rest)) (48 ∷ 48 ∷ []) a text (second_of_digits 48 48 refl refl refl)
      (λ rest. λ g. no_true (is_ascii_digit a && nat_lt a 54) t (tens_of_second a rest g)))
]

pub seconds_longest : (text : List ℕ) → IsLongest AreSeconds text (seconds_standing text)
unfolding seconds_standing
seconds_longest [] = longest_end AreSeconds [] nothing_is
seconds_longest (a ∷ text) = elim (cases_Bool (nat_eq a 58)) [
  | inl t ↦
      let colon : a ≡ 58 = grind (arith, nat_tests) in
      rw (t, colon) (longest_on AreSeconds 58 text (tens_standing text) (tens_longest text))
  | inr t ↦
      rw t (longest_stop AreSeconds [] a text nothing_is (λ rest. λ g. no_true (nat_eq a 58) t (colon_of_second a rest g)))
]

-- ---- a date-time of RFC 3339, and the seconds of its offset

split_take : (m n : ℕ) (text : List ℕ) → m ≤ length text → take (m + n) text ≡ take m text ++ take n (drop m text)
split_take zero n text low = let same : 0 + n ≡ n = omega arith in ap (λ (k : ℕ). take k text) same
split_take (suc m) n [] low = absurd (omega arith)
split_take (suc m) n (a ∷ text) low =
    let one : suc m + n ≡ suc (m + n) = omega arith in
    rw one (ap (λ (z : List ℕ). a ∷ z) (split_take m n text (omega arith)))

length_drop : (m : ℕ) (text : List ℕ) → m ≤ length text → m + length (drop m text) ≡ length text
length_drop zero text low = omega arith
length_drop (suc m) [] low = absurd (omega arith)
length_drop (suc m) (a ∷ text) low = omega (arith, length_drop m text (omega arith))

pub tail_longest-signed : (text : List ℕ) (m n : ℕ) → IsLongest IsPlain text m → has_signed_offset (take m text) ≡ true → IsPlain (take m text)
    → IsLongest AreSeconds (drop m text) n → IsLongest IsTail text (m + n)
tail_longest-signed text m n best signed plain seconds = record {
  at_most = omega (arith, best.at_most, seconds.at_most, length_drop m text best.at_most);
  begins =
      let more = seconds.begins in
      let split : take (m + n) text ++ more.0 ≡ take m text ++ (take n (drop m text) ++ more.0) =
      ap (λ (z : List ℕ). z ++ more.0) (split_take m n text best.at_most) ∙ append_assoc (take m text) (take n (drop m text)) more.0 in
      (more.0, inr (take m text, take n (drop m text) ++ more.0, plain, signed, more.1, split));
  longest = longest;
} where
  longest : (k : ℕ) (rest : List ℕ) → k ≤ length text → IsTail (take k text ++ rest) → k ≤ m + n
  longest k rest low (inl alone) = omega (arith, best.longest k rest low alone)
  longest k rest low (inr (front, after, is, sign, are, e)) =
      elim (seam text m k rest front after is.0 best low is.1 e) [
        | inl shorter ↦ omega (arith, shorter)
        | inr s ↦
            let first : take (length s.more) (drop m text) ≡ s.more =
            ap (take (length s.more)) s.here ∙ take-append_seam s.more (drop k text) in
            let there : AreSeconds (take (length s.more) (drop m text) ++ rest) =
            subst AreSeconds (s.there ∙ ap (λ (z : List ℕ). z ++ rest) (sym first)) are in
            let room : length s.more ≤ length (drop m text) =
            omega (arith, ap (length {A = ℕ}) s.here, length-append s.more (drop k text)) in
            omega (arith, s.size, seconds.longest (length s.more) rest room there)
      ]

pub tail_longest-alone : (text : List ℕ) (m : ℕ) → IsLongest IsPlain text m → has_signed_offset (take m text) ≡ false → IsLongest IsTail text m
tail_longest-alone text m best unsigned = record {
  at_most = best.at_most;
  begins = (best.begins.0, inl best.begins.1);
  longest = longest;
} where
  longest : (k : ℕ) (rest : List ℕ) → k ≤ length text → IsTail (take k text ++ rest) → k ≤ m
  longest k rest low (inl alone) = best.longest k rest low alone
  longest k rest low (inr (front, after, is, sign, are, e)) =
      elim (seam text m k rest front after is.0 best low is.1 e) [
        | inl shorter ↦ shorter
        | inr s ↦ absurd (no_true (has_signed_offset (take m text)) unsigned (ap has_signed_offset s.whole ∙ sign))
      ]
