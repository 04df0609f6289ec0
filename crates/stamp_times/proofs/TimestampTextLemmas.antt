-- The text of an instant by the seconds and the nanoseconds of its absolute value, and what it tells of them.
use Rattle.std.proofs.Common.{◌≡◌, ◌≢◌, ◌≤◌, ℕ, zero, suc, ◌+◌, ◌/◌, ◌%◌, ◌<◌, ◌^◌, Bool, true, false, List, [], ◌∷◌, ◌++◌, append_assoc, append-nil, refl, sym}
use Rattle.std.proofs.Common.{ap, get_or, ◌∙◌, arith, ℤ, pos, negsuc, unsigned_abs, decimal, length, length-append}
use Rattle.std.specs.Prelude.{⊤, nat_eq, int_lt}
use Rattle.std.specs.Str.Parse.{digits_value}
use Rattle.std.proofs.lemmas.Bool.Decides.{nat_tests}
use Rattle.std.proofs.lemmas.Fmt.{length-decimal-le, decimal_by_steps, decimal_is_IsNumeral, decimal_nonempty, decimal_digit}
use Rattle.std.proofs.lemmas.Int.{ints}
use Rattle.calendar_values.specs.Clock.{nanos_per_second}
use Rattle.calendar_values.specs.DigitCountLemmas.{length-last_digits, length-fraction_digits}
use Rattle.calendar_values.specs.Digits.{last_digits, fraction_digits}
use Rattle.calendar_values.specs.SignedArith.{signed_casts}
use Rattle.calendar_values.specs.WallClock.{IsWallClock}
use Rattle.stamp_times.specs.TimestampLemmas.{instant_of_parts-of}
use Rattle.stamp_times.specs.Texts.{fraction_text, seconds_text, timestamp_text}

pub length-decimal-seconds : (s : ℕ) → s < 10 ^ 14 → length (decimal s) ≤ 14
length-decimal-seconds s h = length-decimal-le 14 s (omega arith) (omega arith) (omega arith)

pub ruleset second_magnitudes = (signed_casts, instant_of_parts-of)

pub ruleset text_lengths = (length-decimal-seconds)

-- no two lists are equal with one more element at the end, unless both are
push-injective : (xs ys : List ℕ) (x y : ℕ) → xs ++ x ∷ [] ≡ ys ++ y ∷ [] → (xs ≡ ys) × (x ≡ y)
push-injective [] [] x y e = (refl, cc)
push-injective [] (b ∷ ys) x y e = absurd (omega (arith, ap (length {A = ℕ}) e, length-append ys (y ∷ [])))
push-injective (a ∷ xs) [] x y e = absurd (omega (arith, ap (length {A = ℕ}) e, length-append xs (x ∷ [])))
push-injective (a ∷ xs) (b ∷ ys) x y e =
    let first : a ≡ b = cc in
    let rest : xs ++ x ∷ [] ≡ ys ++ y ∷ [] = cc in
    let same = push-injective xs ys x y rest in
    let front = same.0 in
    (cc, same.1)

last_digits-injective : (k n m : ℕ) → n < 10 ^ k → m < 10 ^ k → last_digits k n ≡ last_digits k m → n ≡ m
unfolding last_digits
last_digits-injective zero n m p q e = omega arith
last_digits-injective (suc k) n m p q e =
    let same = push-injective (last_digits k (n / 10)) (last_digits k (m / 10)) (48 + n % 10) (48 + m % 10) e in
    let front = last_digits-injective k (n / 10) (m / 10) (omega arith) (omega arith) same.0 in
    let last = same.1 in
    omega arith

-- no two fractions of so many places have the same digits
fraction_digits-injective : (k n m : ℕ) → n < 10 ^ k → m < 10 ^ k → fraction_digits k n ≡ fraction_digits k m → n ≡ m
unfolding fraction_digits
fraction_digits-injective zero n m p q e = omega arith
fraction_digits-injective (suc zero) n m p q e = last_digits-injective 1 n m p q e
fraction_digits-injective (suc (suc k)) n m p q e = choose (nat_eq (n % 10) 0) refl (nat_eq (m % 10) 0) refl (λ shorter.
    fraction_digits-injective (suc k) (n / 10) (m / 10) (omega arith) (omega arith) shorter) where
      apart : (x y : ℕ) → fraction_digits (suc k) x ≡ last_digits (suc (suc k)) y → ⊥
      apart x y same = omega (arith, ap (length {A = ℕ}) same, length-fraction_digits (suc k) x, length-last_digits (suc (suc k)) y)

      choose : (a : Bool) → nat_eq (n % 10) 0 ≡ a → (b : Bool) → nat_eq (m % 10) 0 ≡ b →
          (fraction_digits (suc k) (n / 10) ≡ fraction_digits (suc k) (m / 10) → n / 10 ≡ m / 10) → n ≡ m
      choose true f true g earlier = let same = earlier (rw (f, g) at e) in grind (arith, nat_tests)
      choose true f false g earlier = absurd (apart (n / 10) m (rw (f, g) at e))
      choose false f true g earlier = absurd (apart (m / 10) n (sym (rw (f, g) at e)))
      choose false f false g earlier = last_digits-injective (suc (suc k)) n m p q (rw (f, g) at e)

-- the last element of a list, or d where it has none
abbrev last_or : ℕ → List ℕ → ℕ
last_or d [] = d
last_or d (x ∷ xs) = last_or x xs

last_or-append : (d : ℕ) (xs ys : List ℕ) → last_or d (xs ++ ys) ≡ last_or (last_or d xs) ys
last_or-append d [] ys = refl
last_or-append d (x ∷ xs) ys = last_or-append x xs ys

-- a fraction that is not 0 ends in another digit than 0
fraction_digits-end : (k n d : ℕ) → 0 < n → n < 10 ^ k → last_or d (fraction_digits k n) ≢ 48
unfolding fraction_digits last_digits
fraction_digits-end zero n d some p e = omega arith
fraction_digits-end (suc zero) n d some p e = omega arith
fraction_digits-end (suc (suc k)) n d some p e = choose (nat_eq (n % 10) 0) refl (λ more shorter.
    fraction_digits-end (suc k) (n / 10) d more (omega arith) shorter) where
      choose : (a : Bool) → nat_eq (n % 10) 0 ≡ a → (0 < n / 10 → last_or d (fraction_digits (suc k) (n / 10)) ≢ 48) → ⊥
      choose true f earlier = let short : n % 10 ≡ 0 = grind (arith, nat_tests) in earlier (omega arith) (rw f at e)
      choose false f earlier =
          let last : 48 + n % 10 ≡ 48 = sym (last_or-append d (last_digits (suc k) (n / 10)) ((48 + n % 10) ∷ [])) ∙ rw f at e in
          grind (arith, nat_tests)

-- the bytes are digits, or come after them in ASCII: none is `-` or `.`
abbrev HasNoMarks : List ℕ → Type 0
HasNoMarks [] = ⊤
HasNoMarks (c ∷ cs) = (48 ≤ c) × HasNoMarks cs

HasNoMarks-push : (ds : List ℕ) (d : ℕ) → HasNoMarks ds → 48 ≤ d → HasNoMarks (ds ++ d ∷ [])
HasNoMarks-push [] d h low = (low, tt)
HasNoMarks-push (c ∷ cs) d h low = (h.0, HasNoMarks-push cs d h.1 low)

HasNoMarks-decimal : (n : ℕ) → n < 2 ^ 64 → HasNoMarks (decimal n)
HasNoMarks-decimal = decimal_by_steps (λ m ds. HasNoMarks ds) (λ m l. (omega arith, tt)) (λ m ds l h. HasNoMarks-push ds (48 + m % 10) h (omega arith))

-- no bytes, or a point first
abbrev IsFraction : List ℕ → Type 0
IsFraction [] = ⊤
IsFraction (c ∷ cs) = c ≡ 46

-- digits and a fraction determine both
split-injective : (ds es f g : List ℕ) → HasNoMarks ds → HasNoMarks es → IsFraction f → IsFraction g → ds ++ f ≡ es ++ g → (ds ≡ es) × (f ≡ g)
split-injective [] [] f g h k p q e = (refl, e)
split-injective [] (c ∷ es) [] g h k p q e = absurd cc
split-injective [] (c ∷ es) (b ∷ f) g h k p q e = let same : b ≡ c = cc in absurd (omega (arith, k.0, p))
split-injective (c ∷ ds) [] f [] h k p q e = absurd cc
split-injective (c ∷ ds) [] f (b ∷ g) h k p q e = let same : c ≡ b = cc in absurd (omega (arith, h.0, q))
split-injective (c ∷ ds) (d ∷ es) f g h k p q e =
    let first : c ≡ d = cc in
    let rest : ds ++ f ≡ es ++ g = cc in
    let same = split-injective ds es f g h.1 k.1 p q rest in
    let front = same.0 in
    (cc, same.1)

decimal-injective : (n m : ℕ) → n < 2 ^ 64 → m < 2 ^ 64 → decimal n ≡ decimal m → n ≡ m
decimal-injective n m p q e = sym (decimal_is_IsNumeral n p).1 ∙ ap (digits_value 10) e ∙ (decimal_is_IsNumeral m q).1

fraction_text-zero : fraction_text 0 ≡ []
unfolding fraction_text
fraction_text-zero = refl

fraction_text-some : (n : ℕ) → fraction_text (suc n) ≡ 46 ∷ fraction_digits 9 (suc n)
unfolding fraction_text
fraction_text-some n = grind (arith, nat_tests)

IsFraction-fraction_text : (n : ℕ) → IsFraction (fraction_text n)
IsFraction-fraction_text zero = rw fraction_text-zero tt
IsFraction-fraction_text (suc n) = rw (fraction_text-some n) refl

fraction_text-injective : (n m : ℕ) → n < nanos_per_second → m < nanos_per_second → fraction_text n ≡ fraction_text m → n ≡ m
fraction_text-injective zero zero p q e = refl
fraction_text-injective zero (suc m) p q e = absurd (let apart = rw (fraction_text-zero, fraction_text-some m) at e in cc)
fraction_text-injective (suc n) zero p q e = absurd (let apart = rw (fraction_text-zero, fraction_text-some n) at e in cc)
fraction_text-injective (suc n) (suc m) p q e =
    let both = rw (fraction_text-some n, fraction_text-some m) at e in
    fraction_digits-injective 9 (suc n) (suc m) (omega arith) (omega arith) cc

-- a text with no sign has no minus first
not_minus : (ds f rest : List ℕ) → HasNoMarks ds → 0 < length ds → ds ++ f ≡ 45 ∷ rest → ⊥
not_minus [] f rest h some e = omega arith
not_minus (c ∷ ds) f rest h some e = let same : c ≡ 45 = cc in omega (arith, h.0)

-- digits have no point
no_point : (digits whole rest : List ℕ) → HasNoMarks digits → digits ≡ whole ++ 46 ∷ rest → ⊥
no_point [] [] rest h e = absurd cc
no_point [] (b ∷ whole) rest h e = absurd cc
no_point (c ∷ digits) [] rest h e = let same : c ≡ 46 = cc in omega (arith, h.0)
no_point (c ∷ digits) (b ∷ whole) rest h e =
    let others : digits ≡ whole ++ 46 ∷ rest = cc in no_point digits whole rest h.1 others

-- the text of so many nanoseconds, and bytes that are digits before its fraction
abbrev size_text : ℕ → List ℕ
size_text a = seconds_text (a / nanos_per_second) (a % nanos_per_second)

HasNoMarks-seconds : (a : ℕ) → a < 10 ^ 23 → HasNoMarks (decimal (a / nanos_per_second))
HasNoMarks-seconds a p = HasNoMarks-decimal (a / nanos_per_second) (omega arith)

size_text-injective : (a b : ℕ) → a < 10 ^ 23 → b < 10 ^ 23 → size_text a ≡ size_text b → a ≡ b
unfolding seconds_text
size_text-injective a b p q e =
    let left = IsFraction-fraction_text (a % nanos_per_second) in
    let right = IsFraction-fraction_text (b % nanos_per_second) in
    let same = split-injective _ _ _ _ (HasNoMarks-seconds a p) (HasNoMarks-seconds b q) left right e in
    let seconds = decimal-injective (a / nanos_per_second) (b / nanos_per_second) (omega arith) (omega arith) same.0 in
    let rest = fraction_text-injective (a % nanos_per_second) (b % nanos_per_second) (omega arith) (omega arith) same.1 in
    omega arith

size_text-not_minus : (a : ℕ) (rest : List ℕ) → a < 10 ^ 23 → size_text a ≡ 45 ∷ rest → ⊥
unfolding seconds_text
size_text-not_minus a rest p e = not_minus _ _ rest (HasNoMarks-seconds a p) (decimal_nonempty (a / nanos_per_second) (omega arith)) e

-- the text of whole seconds has no point
size_text-whole : (a : ℕ) (whole rest : List ℕ) → a < 10 ^ 23 → a % nanos_per_second ≡ 0 → size_text a ≡ whole ++ 46 ∷ rest → ⊥
unfolding seconds_text
size_text-whole a whole rest p none e = no_point _ whole rest (HasNoMarks-seconds a p) (rw (none, fraction_text-zero, append-nil) at e)

timestamp_text-later : (a : ℕ) → timestamp_text (pos a) ≡ size_text a
unfolding timestamp_text
timestamp_text-later a = let sign : int_lt (pos a) (pos 0) ≡ false = grind (arith, ints) in rw sign

timestamp_text-earlier : (a : ℕ) → timestamp_text (negsuc a) ≡ 45 ∷ size_text (suc a)
unfolding timestamp_text
timestamp_text-earlier a = refl

-- no two instants of the range have one text
pub timestamp_text-injective : (i j : ℤ) → IsWallClock i → IsWallClock j → timestamp_text i ≡ timestamp_text j → i ≡ j
timestamp_text-injective (pos a) (pos b) h k e =
    ap pos (size_text-injective a b (omega (arith, ints)) (omega (arith, ints)) (sym (timestamp_text-later a) ∙ e ∙ timestamp_text-later b))
timestamp_text-injective (pos a) (negsuc b) h k e =
    absurd (size_text-not_minus a _ (omega (arith, ints)) (sym (timestamp_text-later a) ∙ e ∙ timestamp_text-earlier b))
timestamp_text-injective (negsuc a) (pos b) h k e =
    absurd (size_text-not_minus b _ (omega (arith, ints)) (sym (timestamp_text-later b) ∙ sym e ∙ timestamp_text-earlier a))
timestamp_text-injective (negsuc a) (negsuc b) h k e =
    let both : 45 ∷ size_text (suc a) ≡ 45 ∷ size_text (suc b) = sym (timestamp_text-earlier a) ∙ e ∙ timestamp_text-earlier b in
    let same = size_text-injective (suc a) (suc b) (omega (arith, ints)) (omega (arith, ints)) cc in
    omega (arith, ints)

-- a text that ends in a 0 has no fraction
seconds_text-zero_end : (s n : ℕ) (before front : List ℕ) → n < nanos_per_second → before ++ seconds_text s n ≡ front ++ 48 ∷ [] → n ≡ 0
unfolding seconds_text
seconds_text-zero_end s zero before front h e = refl
seconds_text-zero_end s (suc n) before front h e =
    let ends : last_or 0 (before ++ (decimal s ++ 46 ∷ fraction_digits 9 (suc n))) ≡ last_or 0 (front ++ 48 ∷ []) =
    ap (last_or 0) (rw (fraction_text-some n) at e) in
    absurd (fraction_digits-end 9 (suc n) 46 (omega arith) (omega arith) (rw (last_or-append, last_or-append, last_or-append) at ends))

timestamp_text-zero_end : (i : ℤ) (front : List ℕ) → timestamp_text i ≡ front ++ 48 ∷ [] → unsigned_abs i % nanos_per_second ≡ 0
unfolding timestamp_text
timestamp_text-zero_end i front e = seconds_text-zero_end (unsigned_abs i / nanos_per_second) (unsigned_abs i % nanos_per_second) _ front (omega arith) e

timestamp_text-whole : (i : ℤ) (whole rest : List ℕ) → IsWallClock i → unsigned_abs i % nanos_per_second ≡ 0 → timestamp_text i ≡ whole ++ 46 ∷ rest → ⊥
timestamp_text-whole (pos a) whole rest h none e = size_text-whole a whole rest (omega (arith, ints)) none (sym (timestamp_text-later a) ∙ e)
timestamp_text-whole (negsuc a) [] rest h none e =
    let signed : 45 ∷ size_text (suc a) ≡ 46 ∷ rest = sym (timestamp_text-earlier a) ∙ e in absurd (omega (arith, ap (λ (t : List ℕ). get_or t 0 0) signed))
timestamp_text-whole (negsuc a) (b ∷ whole) rest h none e =
    let signed : 45 ∷ size_text (suc a) ≡ b ∷ (whole ++ 46 ∷ rest) = sym (timestamp_text-earlier a) ∙ e in
    size_text-whole (suc a) whole rest (omega (arith, ints)) none cc

-- no fraction ends in a zero
pub timestamp_text-fraction_end : (i : ℤ) (whole digits front : List ℕ) → IsWallClock i
    → timestamp_text i ≡ whole ++ (46 ∷ []) ++ digits → digits ≢ front ++ 48 ∷ []
timestamp_text-fraction_end i whole digits front h e ends =
    let point : timestamp_text i ≡ whole ++ 46 ∷ digits = e ∙ append_assoc whole (46 ∷ []) digits in
    let zero_end : timestamp_text i ≡ (whole ++ 46 ∷ front) ++ 48 ∷ [] =
    point ∙ ap (λ (t : List ℕ). whole ++ 46 ∷ t) ends ∙ sym (append_assoc whole (46 ∷ front) (48 ∷ [])) in
    timestamp_text-whole i whole digits h (timestamp_text-zero_end i (whole ++ 46 ∷ front) zero_end) point

size_text-zero : size_text 0 ≡ 48 ∷ []
unfolding seconds_text
size_text-zero = rw (decimal_digit 0 (omega arith), fraction_text-zero)

-- the text of no instant is `-0`
pub timestamp_text-not_zero : (i : ℤ) → IsWallClock i → timestamp_text i ≢ 45 ∷ 48 ∷ []
timestamp_text-not_zero (pos a) h e = size_text-not_minus a _ (omega (arith, ints)) (sym (timestamp_text-later a) ∙ e)
timestamp_text-not_zero (negsuc a) h e =
    let both : 45 ∷ size_text (suc a) ≡ 45 ∷ size_text 0 = sym (timestamp_text-earlier a) ∙ e ∙ ap (λ (t : List ℕ). 45 ∷ t) (sym size_text-zero) in
    let same = size_text-injective (suc a) 0 (omega (arith, ints)) (omega arith) cc in
    omega arith
