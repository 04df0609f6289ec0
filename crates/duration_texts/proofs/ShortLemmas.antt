-- The text in short units derives its duration.
use Rattle.std.proofs.Common.{◌≡◌, inl, inr, refl, sym, ap, subst, ◌∙◌, ℕ, zero, suc, ◌+◌, ◌*◌, ◌/◌, ◌%◌, ◌^◌, ◌≤◌, ◌<◌, ◌==◌, arith}
use Rattle.std.proofs.Common.{Bool, true, false, List, [], ◌∷◌, ◌++◌, append-nil, append_assoc, length, Some}
use Rattle.std.proofs.Common.{ℤ, pos, negsuc, ◌+ℤ◌, unsigned_abs}
use Rattle.std.proofs.lemmas.Int.{ints}
use Rattle.std.specs.Prelude.{IsTrue, decimal, int_lt, ⊤, codes, if◌then◌else◌}
use Rattle.std.specs.List.{list_all}
use Rattle.std.proofs.lemmas.Bool.{cases_Bool, eqb-true}
use Rattle.std.proofs.lemmas.Fmt.{length-decimal-le}
use Rattle.calendar_values.specs.Clock.{nanos_per_second}
use Rattle.calendar_values.specs.Durations.{IsDuration}
use Rattle.duration_texts.specs.Grammar.{Sign, Derives, DerivesTerms, Term, term_text, terms_text, IsTerm, AreTerms, is_negative, after_blanks, sign_text}
use Rattle.duration_texts.specs.Grammar.Sign.{Unsigned, Minus}
use Rattle.duration_texts.specs.Numbers.{number_text}
use Rattle.duration_texts.specs.Pieces.{is_letter, blanks}
use Rattle.duration_texts.specs.Reading.{with_sign}
use Rattle.duration_texts.specs.Texts.{sign_of, short_units, count_text, counts_text, short_text}
use Rattle.duration_texts.specs.Units.{unit_of}
use Rattle.duration_texts.proofs.IsoLemmas.{with_sign-sum, none-sum, lesser}
use Rattle.duration_texts.proofs.WrittenLemmas.{decimal-writes, signed, least_seconds}

-- ---- lengths

pub length-count : (n : ℕ) → n < 10 ^ 15 → length (decimal n) ≤ 15
length-count n low = length-decimal-le 15 n (omega arith) low (omega (arith, low))

pub length-small : (n : ℕ) → n < 1_000 → length (decimal n) ≤ 3
length-small n low = length-decimal-le 3 n (omega arith) low (omega (arith, low))

pub ruleset count_lengths = (length-count, length-small)

-- ---- the numbers of the units are terms

-- each name is of its unit
AreUnits : List (List ℕ × ℕ) → Type 0
AreUnits [] = ⊤
AreUnits (unit ∷ units) = (unit_of unit.0 ≡ Some unit.1) × IsTrue (list_all is_letter unit.0) × (0 < unit.1) × (unit.1 ≤ 2 ^ 64) × AreUnits units

-- what the units leave
remainder : List (List ℕ × ℕ) → ℕ → ℕ
remainder [] n = n
remainder (unit ∷ units) n = remainder units (n % unit.1)

-- the number of the first unit has few digits
IsLow : List (List ℕ × ℕ) → ℕ → Type 0
IsLow [] n = ⊤
IsLow (unit ∷ units) n = n / unit.1 < 2 ^ 64

-- the first term has no sign
IsUnsigned : List Term → Type 0
IsUnsigned [] = ⊤
IsUnsigned (first ∷ others) = first.sign ≡ Unsigned

-- the terms of a text of numbers of units, with m nanoseconds, counted from k on
record Counts (negative : Bool) (units : List (List ℕ × ℕ)) (k n : ℕ) : Type 0 where
  terms : List Term
  m : ℕ
  spelled : counts_text units n ≡ terms_text terms
  value : AreTerms negative (with_sign negative k) terms (with_sign negative m)
  all : m + remainder units n ≡ k + n
  unsigned : IsUnsigned terms

-- the term of a number of a unit
is_term : (count unit : ℕ) (name : List ℕ) → count < 2 ^ 64 → unit_of name ≡ Some unit → IsTrue (list_all is_letter name)
    → IsTerm (record { sign = Unsigned; number = record { whole = decimal count; fraction = [] }; between = 0; word = name; after = 0 }) (count * unit)
is_term count unit name low named letters =
    let whole = decimal-writes count low in
    let value = whole.value in
    record {
      digits = record { some = whole.some; whole = whole.all; fraction = refl };
      letters = letters;
      unit = unit;
      named = named;
      value = record { part = 0; fraction = omega arith; whole = rw value (omega arith) };
    }

count_text-some : (count : ℕ) (name : List ℕ) → (count == 0) ≡ false → count_text count name ≡ decimal count ++ name
count_text-some count name e = rw e refl

term_text-of : (count : ℕ) (name : List ℕ)
    → term_text (record { sign = Unsigned; number = record { whole = decimal count; fraction = [] }; between = 0; word = name; after = 0 })
    ≡ decimal count ++ name
term_text-of count name = ap (λ (xs : List ℕ). xs ++ (name ++ [])) (append-nil (decimal count)) ∙ ap (λ (xs : List ℕ). decimal count ++ xs) (append-nil name)

next-low : (units : List (List ℕ × ℕ)) (n unit : ℕ) → 0 < unit → unit ≤ 2 ^ 64 → IsLow units (n % unit)
unfolding IsLow
next-low [] n unit some low = tt
next-low (next ∷ units) n unit some low =
    let rest : n % unit < unit = omega (arith, some) in
    let less : n % unit / next.1 ≤ n % unit = omega arith in
    omega (arith, rest, less, low)

counts : (negative : Bool) (units : List (List ℕ × ℕ)) (k n : ℕ) → AreUnits units → IsLow units n → IsDuration (with_sign negative (k + n))
    → Counts negative units k n
unfolding AreUnits remainder IsLow IsUnsigned
counts negative [] k n are low in_range = record { terms = []; m = k; spelled = refl; value = refl; all = refl; unsigned = tt }
counts negative (unit ∷ units) k n are low in_range =
    let parts : unit.1 * (n / unit.1) + n % unit.1 ≡ n = omega arith in
    let next = next-low units n unit.1 are.2 are.3 in
    elim (cases_Bool (n / unit.1 == 0)) [
      | inl t ↦
          let none = eqb-true (n / unit.1) 0 t in
          let same : n % unit.1 ≡ n = let product = ap (λ (c : ℕ). unit.1 * c) none in omega (arith, parts, product) in
          let rest = counts negative units k (n % unit.1) are.4 next (subst (λ (x : ℕ). IsDuration (with_sign negative (k + x))) (sym same) in_range) in
          record {
            terms = rest.terms;
            m = rest.m;
            spelled = rw t rest.spelled;
            value = rest.value;
            all = rest.all ∙ ap (λ (x : ℕ). k + x) same;
            unsigned = rest.unsigned;
          }
      | inr t ↦
          let count = n / unit.1 in
          let whole : k + count * unit.1 + n % unit.1 ≡ k + n = omega (arith, parts) in
          let rest = counts negative units (k + count * unit.1) (n % unit.1) are.4 next
          (subst (λ (x : ℕ). IsDuration (with_sign negative x)) (sym whole) in_range) in
          let sum = with_sign-sum negative k (count * unit.1) in
          record {
            terms = record { sign = Unsigned; number = record { whole = decimal count; fraction = [] }; between = 0; word = unit.0; after = 0 } ∷ rest.terms;
            m = rest.m;
            spelled =
                ap (λ (xs : List ℕ). xs ++ counts_text units (n % unit.1)) (count_text-some count unit.0 t ∙ sym (term_text-of count unit.0))
                ∙ ap (λ (xs : List ℕ). term_text (record {
                  sign = Unsigned;
                  number = record { whole = decimal count; fraction = [] };
                  between = 0;
                  word = unit.0;
                  after = 0;
                }) ++ xs) rest.spelled;
            value = (
              count * unit.1,
              is_term count unit.1 unit.0 low are.0 are.1,
              subst (λ (z : ℤ). IsDuration z) (sym sum) (lesser negative (k + count * unit.1) (k + n) (omega (arith, whole)) in_range),
              subst (λ (z : ℤ). AreTerms negative z rest.terms (with_sign negative rest.m)) (sym sum) rest.value,
            );
            all = rest.all ∙ whole;
            unsigned = refl;
          }
    ]

-- ---- the whole text

units_are : AreUnits short_units
unfolding unit_of AreUnits
units_are = (
  refl,
  refl,
  omega arith,
  omega arith,
  (
    refl,
    refl,
    omega arith,
    omega arith,
    (
      refl,
      refl,
      omega arith,
      omega arith,
      (
        refl,
        refl,
        omega arith,
        omega arith,
        (
          refl,
          refl,
          omega arith,
          omega arith,
          (
            refl,
            refl,
            omega arith,
            omega arith,
            (refl, refl, omega arith, omega arith, tt),
          ),
        ),
      ),
    ),
  ),
)

second_named : unit_of (codes "s") ≡ Some nanos_per_second
unfolding unit_of
second_named = refl

nothing_left : (n : ℕ) → remainder short_units n ≡ 0
unfolding remainder
nothing_left n = omega arith

first_low : (d : ℤ) → IsDuration d → IsLow short_units (unsigned_abs d)
unfolding IsLow
first_low d in_range = let low = least_seconds d in_range in omega (arith, low)

-- the first term takes the sign of the whole text
signed_first : (first : Term) (others : List Term) (total : ℤ) → first.sign ≡ Unsigned → AreTerms true (pos 0) (first ∷ others) total
    → DerivesTerms (45 ∷ terms_text (first ∷ others)) total
signed_first first others total is h =
    let negative : is_negative true first.sign ≡ true = ap (is_negative true) is in
    record {
      before = 0;
      first = record { sign = Minus; number = first.number; between = first.between; word = first.word; after = first.after };
      others = others;
      spelled =
          ap (λ (s : Sign). 45 ∷ ((sign_text s ++ (number_text first.number ++ (blanks first.between ++ (first.word ++ blanks first.after))))
          ++ terms_text others)) is;
      value = (
        h.0,
        record { digits = h.1.digits; letters = h.1.letters; unit = h.1.unit; named = h.1.named; value = h.1.value },
        subst (λ (b : Bool). IsDuration (pos 0 +ℤ with_sign b h.0)) negative h.2,
        subst (λ (b : Bool). AreTerms (after_blanks first.after b) (pos 0 +ℤ with_sign b h.0) others total) negative h.3,
      );
    }

nonempty : (negative : Bool) (n : ℕ) (terms : List Term) → 0 < n → AreTerms negative (with_sign negative 0) terms (with_sign negative n) → IsUnsigned terms
    → (first : Term) × (others : List Term) × (terms ≡ first ∷ others) × (first.sign ≡ Unsigned)
unfolding IsUnsigned
nonempty true n [] some h unsigned = absurd (omega (arith, ints, some, h))
nonempty false n [] some h unsigned = absurd (omega (arith, ints, some, h))
nonempty negative n (first ∷ others) some h unsigned = (first, others, refl, unsigned)

written : (negative : Bool) (n : ℕ) → 0 < n → IsLow short_units n → IsDuration (with_sign negative n)
    → DerivesTerms (sign_text (if negative then Minus else Unsigned) ++ counts_text short_units n) (with_sign negative n)
written negative n some low in_range =
    let none : 0 + n ≡ n = omega arith in
    let c = counts negative short_units 0 n units_are low (subst (λ (x : ℕ). IsDuration (with_sign negative x)) (sym none) in_range) in
    let left = nothing_left n in
    let all = c.all in
    let whole : c.m ≡ n = omega (arith, all, left) in
    let value : AreTerms negative (with_sign negative 0) c.terms (with_sign negative n) =
    subst (λ (m : ℕ). AreTerms negative (with_sign negative 0) c.terms (with_sign negative m)) whole c.value in
    let begins = nonempty negative n c.terms some value c.unsigned in
    let from : AreTerms negative (pos 0) (begins.0 ∷ begins.1) (with_sign negative n) =
    subst (λ (z : ℤ). AreTerms negative z (begins.0 ∷ begins.1) (with_sign negative n)) (none-sum negative)
    (subst (λ (ts : List Term). AreTerms negative (with_sign negative 0) ts (with_sign negative n)) begins.2 value) in
    let text : counts_text short_units n ≡ terms_text (begins.0 ∷ begins.1) = c.spelled ∙ ap terms_text begins.2 in
    by_sign negative n (counts_text short_units n) begins.0 begins.1 text begins.3 from where
      by_sign : (negative : Bool) (n : ℕ) (text : List ℕ) (first : Term) (others : List Term) → text ≡ terms_text (first ∷ others) → first.sign ≡ Unsigned
          → AreTerms negative (pos 0) (first ∷ others) (with_sign negative n)
          → DerivesTerms (sign_text (if negative then Minus else Unsigned) ++ text) (with_sign negative n)
      by_sign true n text first others e is h =
          subst (λ (xs : List ℕ). DerivesTerms (45 ∷ xs) (with_sign true n)) (sym e) (signed_first first others (with_sign true n) is h)
      by_sign false n text first others e is h = record { before = 0; first = first; others = others; spelled = e; value = h }

sign_is : (d : ℤ) → sign_of d ≡ (if is_negative false (sign_of d) then Minus else Unsigned)
sign_is (pos n) =
    elim (cases_Bool (int_lt (pos n) (pos 0))) [
      | inl t ↦ rw t refl
      | inr t ↦ rw t refl
    ]
sign_is (negsuc n) = refl

zero-derives : (d : ℤ) (text : List ℕ) → unsigned_abs d ≡ 0 → text ≡ codes "0s" → DerivesTerms text d
zero-derives (pos n) text none e =
    let zero_duration : IsDuration (pos 0) = (omega (arith, ints), omega (arith, ints)) in
    record {
      before = 0;
      first = record { sign = Unsigned; number = record { whole = codes "0"; fraction = [] }; between = 0; word = codes "s"; after = 0 };
      others = [];
      spelled = e;
      value = (
        0,
        record {
          digits = record { some = omega arith; whole = refl; fraction = refl };
          letters = refl;
          unit = nanos_per_second;
          named = second_named;
          value = record { part = 0; fraction = refl; whole = refl };
        },
        zero_duration,
        ap pos (sym none),
      );
    }
zero-derives (negsuc n) text none e = absurd (omega (arith, none))

pub short_text-derives : (d : ℤ) (text : List ℕ) → IsDuration d → text ≡ short_text d → Derives text d
unfolding short_text
short_text-derives d text in_range e =
    elim (cases_Bool (unsigned_abs d == 0)) [
      | inl t ↦ (in_range, inl (zero-derives d text (eqb-true (unsigned_abs d) 0 t) (e ∙ rw t refl)))
      | inr t ↦
          let negative = is_negative false (sign_of d) in
          let some : 0 < unsigned_abs d = some_of (unsigned_abs d) t in
          let spelled : text ≡ sign_text (if negative then Minus else Unsigned) ++ counts_text short_units (unsigned_abs d) =
          e ∙ rw t (ap (λ (s : Sign). sign_text s ++ counts_text short_units (unsigned_abs d)) (sign_is d)) in
          let h = written negative (unsigned_abs d) some (first_low d in_range) (subst (λ (z : ℤ). IsDuration z) (signed d) in_range) in (
            in_range,
            inl (subst (λ (z : ℤ). DerivesTerms text z) (sym (signed d))
                (subst (λ (xs : List ℕ). DerivesTerms xs (with_sign negative (unsigned_abs d))) (sym spelled) h)),
          )
    ] where
      some_of : (n : ℕ) → (n == 0) ≡ false → 0 < n
      some_of zero e = absurd cc
      some_of (suc n) e = omega arith

-- ---- what is put at the end of a text

seven : (old a b c d e f g : List ℕ) → ((((((old ++ a) ++ b) ++ c) ++ d) ++ e) ++ f) ++ g ≡ old ++ (a ++ (b ++ (c ++ (d ++ (e ++ (f ++ (g ++ [])))))))
seven old a b c d e f g =
    append_assoc (((((old ++ a) ++ b) ++ c) ++ d) ++ e) f g
    ∙ append_assoc ((((old ++ a) ++ b) ++ c) ++ d) e (f ++ g)
    ∙ append_assoc (((old ++ a) ++ b) ++ c) d (e ++ (f ++ g))
    ∙ append_assoc ((old ++ a) ++ b) c (d ++ (e ++ (f ++ g)))
    ∙ append_assoc (old ++ a) b (c ++ (d ++ (e ++ (f ++ g))))
    ∙ append_assoc old a (b ++ (c ++ (d ++ (e ++ (f ++ g)))))
    ∙ ap (λ (xs : List ℕ). old ++ (a ++ (b ++ (c ++ (d ++ (e ++ (f ++ xs))))))) (sym (append-nil g))

pub counts-are : (s n : ℕ) → n < nanos_per_second
    → counts_text short_units (s * nanos_per_second + n)
    ≡ count_text (s / 86_400) (codes "d") ++ (count_text (s % 86_400 / 3_600) (codes "h") ++ (count_text (s % 86_400 % 3_600 / 60) (codes "m")
    ++ (count_text (s % 86_400 % 60) (codes "s") ++ (count_text (n / 1_000_000) (codes "ms") ++ (count_text (n % 1_000_000 / 1_000) (codes "us")
    ++ (count_text (n % 1_000) (codes "ns") ++ []))))))
counts-are s n low =
    let N = s * nanos_per_second + n in
    let days : N / 86_400_000_000_000 ≡ s / 86_400 = omega (arith, low) in
    let in_day : N % 86_400_000_000_000 ≡ s % 86_400 * 1_000_000_000 + n = omega (arith, low) in
    let hours : (s % 86_400 * 1_000_000_000 + n) / 3_600_000_000_000 ≡ s % 86_400 / 3_600 = omega (arith, low) in
    let in_hour : (s % 86_400 * 1_000_000_000 + n) % 3_600_000_000_000 ≡ s % 86_400 % 3_600 * 1_000_000_000 + n = omega (arith, low) in
    let minutes : (s % 86_400 % 3_600 * 1_000_000_000 + n) / 60_000_000_000 ≡ s % 86_400 % 3_600 / 60 = omega (arith, low) in
    let in_minute : (s % 86_400 % 3_600 * 1_000_000_000 + n) % 60_000_000_000 ≡ s % 86_400 % 60 * 1_000_000_000 + n = omega (arith, low) in
    let seconds : (s % 86_400 % 60 * 1_000_000_000 + n) / 1_000_000_000 ≡ s % 86_400 % 60 = omega (arith, low) in
    let in_second : (s % 86_400 % 60 * 1_000_000_000 + n) % 1_000_000_000 ≡ n = omega (arith, low) in
    let last : n % 1_000_000 % 1_000 / 1 ≡ n % 1_000 = omega arith in
    rw (days, in_day) (rw (hours, in_hour) (rw (minutes, in_minute) (rw (seconds, in_second) (rw last refl))))

pub pushed-units : (old a b c d e f g : List ℕ) (s n : ℕ) → n < nanos_per_second → a ≡ old ++ count_text (s / 86_400) (codes "d")
    → b ≡ a ++ count_text (s % 86_400 / 3_600) (codes "h") → c ≡ b ++ count_text (s % 86_400 % 3_600 / 60) (codes "m")
    → d ≡ c ++ count_text (s % 86_400 % 60) (codes "s") → e ≡ d ++ count_text (n / 1_000_000) (codes "ms")
    → f ≡ e ++ count_text (n % 1_000_000 / 1_000) (codes "us") → g ≡ f ++ count_text (n % 1_000) (codes "ns")
    → g ≡ old ++ counts_text short_units (s * nanos_per_second + n)
pushed-units old a b c d e f g s n low to_a to_b to_c to_d to_e to_f to_g =
    rw (counts-are s n low) (rw (to_g, to_f, to_e, to_d, to_c, to_b, to_a) (seven old _ _ _ _ _ _ _))

-- the seconds and the nanoseconds of a number make it
pub parts-are : (s n m : ℕ) → s ≡ m / nanos_per_second → n ≡ m % nanos_per_second → s * nanos_per_second + n ≡ m
parts-are s n m e f = omega (arith, e, f)

pub short_text-some : (s n : ℕ) (d : ℤ) (text old new : List ℕ) → s ≡ unsigned_abs d / nanos_per_second → n ≡ unsigned_abs d % nanos_per_second
    → (s ≡ 0 → n ≡ 0 → ⊥) → text ≡ [] → old ≡ text ++ sign_text (sign_of d) → new ≡ old ++ counts_text short_units (s * nanos_per_second + n)
    → new ≡ short_text d
unfolding short_text
short_text-some s n d text old new e f some begin put more =
    elim (cases_Bool (unsigned_abs d == 0)) [
      | inl t ↦
          let none = eqb-true (unsigned_abs d) 0 t in
          absurd (some (omega (arith, e, none)) (omega (arith, f, none)))
      | inr t ↦
          rw t (more ∙ ap (λ (m : ℕ). old ++ counts_text short_units m) (parts-are s n (unsigned_abs d) e f)
          ∙ ap (λ (xs : List ℕ). xs ++ counts_text short_units (unsigned_abs d)) (put ∙ ap (λ (xs : List ℕ). xs ++ sign_text (sign_of d)) begin))
    ]
