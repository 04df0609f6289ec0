-- Fractions and offsets: a text that is read has the form, and a text that has the form is read.
use Rattle.std.proofs.Common.{◌≡◌, ◌≢◌, ◌⊎◌, inl, inr, ℕ, ◌-◌, ◌*◌, ◌/◌, ◌<◌, ◌≤◌, Bool, true, false, nat_eq, List, [], ◌∷◌, ◌++◌, length}
use Rattle.std.proofs.Common.{length-append, Option, Some, None, refl, ap, arith}
use Rattle.std.specs.Prelude.{codes, ◌||◌}
use Rattle.std.specs.Char.{is_ascii_digit}
use Rattle.std.specs.List.{list_all}
use Rattle.std.proofs.lemmas.Bool.Decides.{nat_tests}
use Rattle.std.proofs.lemmas.Bool.{and_parts, cases_Bool}
use Rattle.std.proofs.lemmas.Option.{same_Some}
use Rattle.std.proofs.Math.Nat.{mul-le-mul_right}
use Rattle.calendar_values.specs.Digits.{last_digits}
use Rattle.rfc3339.specs.Form.{fraction_value, IsFraction, IsOffsetText}
use Rattle.rfc3339.specs.Reading.{◌>>=◌, two_digits_at, mark_at, part_at, digits_at, fraction_of, fraction_at, zone_at}
use Rattle.rfc3339.specs.FieldDigitLemmas.{digit_again}
use Rattle.rfc3339.specs.FormLemmas.{bind_some, mark_takes, mark_again, two_takes, part_takes}

-- the digits in front of a text
pub record AreDigits (unit : ℕ) (bytes digits : List ℕ) (value : ℕ) (rest : List ℕ) : Type 0 where
  pub parts : bytes ≡ digits ++ rest
  pub are : list_all is_ascii_digit digits ≡ true
  pub counts : fraction_value unit digits ≡ value

pub digits_take : (unit : ℕ) (text : List ℕ) → (digits : List ℕ) × AreDigits unit text digits (digits_at unit text).0 (digits_at unit text).1
unfolding digits_at fraction_value
digits_take unit [] = ([], record { parts = refl; are = refl; counts = refl })
digits_take unit (first ∷ text) =
    let more = digits_take (unit / 10) text in
    elim (cases_Bool (is_ascii_digit first)) [
      | inl t ↦ rw t (first ∷ more.0, record { parts = grind (arith, more.1.parts); are = rw t more.1.are; counts = grind (arith, more.1.counts) })
      | inr t ↦ rw t ([], record { parts = refl; are = refl; counts = refl })
    ]

-- the bytes that follow a fraction, or that take its place where there is none
pub record EndsFraction (bytes : List ℕ) : Type 0 where
  pub no_digit : (unit : ℕ) → digits_at unit bytes ≡ (0, bytes)
  pub no_point : mark_at 46 bytes ≡ None
  pub some : 1 ≤ length bytes

pub digits_again : (unit : ℕ) (digits rest : List ℕ) → list_all is_ascii_digit digits ≡ true → EndsFraction rest
    → digits_at unit (digits ++ rest) ≡ (fraction_value unit digits, rest)
unfolding digits_at fraction_value
digits_again unit [] rest all h = h.no_digit unit
digits_again unit (first ∷ digits) rest all h =
    let both = and_parts (is_ascii_digit first) (list_all is_ascii_digit digits) all in rw (both.0, digits_again (unit / 10) digits rest both.1 h) refl

-- ---- a fraction

pub record TakesFraction (bytes text : List ℕ) (nanosecond : ℕ) (rest : List ℕ) : Type 0 where
  pub parts : bytes ≡ text ++ rest
  pub is : IsFraction text nanosecond

fraction_of_mark : (bytes : List ℕ) (o : Option (List ℕ)) (n : ℕ) (rest : List ℕ) → mark_at 46 bytes ≡ o → fraction_of bytes o ≡ Some (n, rest)
    → (text : List ℕ) × TakesFraction bytes text n rest
fraction_of_mark bytes None n rest m e = ([], record { parts = grind arith; is = inl (refl, grind arith) })
fraction_of_mark bytes (Some digits) n rest m e =
    let read = digits_at 100_000_000 digits in
    let h = digits_take 100_000_000 digits in
    let other : length read.1 ≢ length digits = grind (arith, nat_tests) in
    let r : read.1 ≡ rest = grind (arith, nat_tests) in
    let some : 0 < length h.0 = omega (arith, ap (length {A = ℕ}) h.1.parts, length-append h.0 read.1) in
    let counts : n ≡ fraction_value 100_000_000 h.0 = grind (arith, nat_tests, h.1.counts) in
    (46 ∷ h.0, record { parts = grind (arith, mark_takes 46 bytes digits m, h.1.parts, r); is = inr (h.0, refl, some, h.1.are, counts) })

pub fraction_takes : (bytes : List ℕ) (n : ℕ) (rest : List ℕ) → fraction_at bytes ≡ Some (n, rest) → (text : List ℕ) × TakesFraction bytes text n rest
unfolding fraction_at
fraction_takes bytes n rest e = fraction_of_mark bytes (mark_at 46 bytes) n rest refl e

pub fraction_again : (text : List ℕ) (n : ℕ) (rest : List ℕ) → IsFraction text n → EndsFraction rest → fraction_at (text ++ rest) ≡ Some (n, rest)
unfolding fraction_at
fraction_again text n rest (inl none) h = rw (none.0, none.1, h.no_point) refl
fraction_again text n rest (inr some) h =
    let shorter : nat_eq (length rest) (length (some.0 ++ rest)) ≡ false = grind (arith, nat_tests, some.2, length-append some.0 rest) in
    rw (some.1, some.4, mark_again 46 (some.0 ++ rest), digits_again 100_000_000 some.0 rest some.3 h, shorter) refl

-- the digits of a fraction count less than ten units
fraction_value-below : (unit : ℕ) (digits : List ℕ) → list_all is_ascii_digit digits ≡ true → fraction_value unit digits ≤ 10 * unit - 1
unfolding fraction_value
fraction_value-below unit [] all = omega arith
fraction_value-below unit (first ∷ digits) all =
    let both = and_parts (is_ascii_digit first) (list_all is_ascii_digit digits) all in
    let digit : first - 48 ≤ 9 = grind (arith, nat_tests, both.0) in
    omega (arith, fraction_value-below (unit / 10) digits both.1, mul-le-mul_right unit digit)

pub IsFraction-below : (text : List ℕ) (n : ℕ) → IsFraction text n → n ≤ 999_999_999
IsFraction-below text n (inl none) = omega (arith, none.1)
IsFraction-below text n (inr some) = omega (arith, some.4, fraction_value-below 100_000_000 some.0 some.3)

-- ---- an offset

pub record TakesOffset (bytes text : List ℕ) (is_west : Bool) (hour minute : ℕ) (rest : List ℕ) : Type 0 where
  pub parts : bytes ≡ text ++ rest
  pub is : IsOffsetText text is_west hour minute
  pub hour_fits : hour < 100
  pub minute_fits : minute < 100

pub zone_takes : (bytes : List ℕ) (is_west : Bool) (hour minute : ℕ) (rest : List ℕ) → zone_at bytes ≡ Some ((is_west, hour, minute), rest)
    → (text : List ℕ) × TakesOffset bytes text is_west hour minute rest
unfolding zone_at last_digits
zone_takes [] is_west hour minute rest e = absurd cc
zone_takes (first ∷ bytes) is_west hour minute rest e =
    elim (cases_Bool (nat_eq first 90 || nat_eq first 122)) [
      | inl t ↦
          let g = same_Some ((false, 0, 0), bytes) ((is_west, hour, minute), rest) (rw t at e) in
          let letter : (first ∷ [] ≡ codes "Z") ⊎ (first ∷ [] ≡ codes "z") = grind (arith, nat_tests) in
          let zeros : (is_west ≡ false) × (hour ≡ 0) × (minute ≡ 0) × (bytes ≡ rest) = grind (arith, g) in (
            first ∷ [],
            record {
              parts = ap (λ (z : List ℕ). first ∷ z) zeros.3;
              is = inl (letter, zeros.0, zeros.1, zeros.2);
              hour_fits = omega arith;
              minute_fits = omega arith;
            },
          )
      | inr t ↦ elim (cases_Bool (nat_eq first 43 || nat_eq first 45)) [
        | inl s ↦
            let a = bind_some (two_digits_at bytes) (λ h. part_at 58 h.1 >>= λ m. Some ((nat_eq first 45, h.0, m.0), m.1)) _ (rw (t, s) at e) in
            let b = bind_some (part_at 58 a.0.1) (λ m. Some ((nat_eq first 45, a.0.0, m.0), m.1)) _ a.2 in
            let g = same_Some ((nat_eq first 45, a.0.0, b.0.0), b.0.1) ((is_west, hour, minute), rest) b.2 in
            let h = two_takes bytes a.0.0 a.0.1 a.1 in
            let m = part_takes 58 a.0.1 b.0.0 b.0.1 b.1 in
            let same : (nat_eq first 45 ≡ is_west) × (a.0.0 ≡ hour) × (b.0.0 ≡ minute) × (b.0.1 ≡ rest) = grind (arith, g) in
            let fits : (hour < 100) × (minute < 100) = grind (arith, h.fits, m.fits, same) in (
              first ∷ last_digits 2 hour ++ 58 ∷ last_digits 2 minute,
              record {
                parts = grind (arith, h.parts, m.parts, same);
                is = inr (grind (arith, nat_tests, same));
                hour_fits = fits.0;
                minute_fits = fits.1;
              },
            )
        | inr s ↦ let none = rw (t, s) at e in absurd cc
      ]
    ]

pub zone_again : (text : List ℕ) (is_west : Bool) (hour minute : ℕ) (rest : List ℕ) → IsOffsetText text is_west hour minute → hour < 100 → minute < 100
    → zone_at (text ++ rest) ≡ Some ((is_west, hour, minute), rest)
unfolding zone_at two_digits_at part_at mark_at last_digits
zone_again text is_west hour minute rest (inl (inl upper, east, hours, minutes)) h m = rw (upper, east, hours, minutes) refl
zone_again text is_west hour minute rest (inl (inr lower, east, hours, minutes)) h m = rw (lower, east, hours, minutes) refl
zone_again text true hour minute rest (inr e) h m = rw e (grind (arith, nat_tests, digit_again))
zone_again text false hour minute rest (inr e) h m = rw e (grind (arith, nat_tests, digit_again))

ends_at : (first : ℕ) (rest : List ℕ) → is_ascii_digit first ≡ false → nat_eq first 46 ≡ false → EndsFraction (first ∷ rest)
unfolding digits_at mark_at
ends_at first rest d p = record { no_digit = λ unit. rw d refl; no_point = rw p refl; some = omega arith }

pub offset_ends : (text : List ℕ) (is_west : Bool) (hour minute : ℕ) (rest : List ℕ) → IsOffsetText text is_west hour minute → EndsFraction (text ++ rest)
offset_ends text is_west hour minute rest (inl (inl upper, _, _, _)) = rw upper (ends_at 90 rest refl refl)
offset_ends text is_west hour minute rest (inl (inr lower, _, _, _)) = rw lower (ends_at 122 rest refl refl)
offset_ends text true hour minute rest (inr e) = rw e (ends_at 45 _ refl refl)
offset_ends text false hour minute rest (inr e) = rw e (ends_at 43 _ refl refl)
