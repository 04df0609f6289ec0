-- A name that the text begins with is the only one: any two of them differ in their first three letters.
use Rattle.std.proofs.Common.{◌≡◌, ℕ, suc, zero, ◌+◌, ◌-◌, ◌<◌, ◌≤◌, ◌==◌, ◌&&◌, Bool, true, false, List, [], ◌∷◌}
use Rattle.std.proofs.Common.{arith, refl, sym, ap, ◌∙◌, Some, None, inl, inr}
use Rattle.std.specs.Prelude.{if◌then◌else◌}
use Rattle.std.specs.Char.{to_ascii_lowercase}
use Rattle.std.proofs.lemmas.Bool.{cases_Bool, and_parts}
use Rattle.std.proofs.lemmas.Bool.Decides.{nat_tests}
use Rattle.format_descriptions.specs.Names.{name_of_month, name_of_weekday, month_of_number, weekday_of_number}
use Rattle.format_descriptions.specs.Reading.{is_letter, letter_at, word_at, named, month_at, weekday_at}
use Rattle.format_descriptions.specs.Written.{name_in_form}
use Rattle.format_descriptions.specs.declared.modifiers.NameForm.{NameForm}
use Rattle.format_descriptions.specs.declared.modifiers.NameForm.TheVariants.{Long, Short}
use Rattle.format_descriptions.specs.declared.modifiers.ReadCase.{ReadCase}
use Rattle.format_descriptions.specs.declared.modifiers.ReadCase.TheVariants.{Same, Any}
use Rattle.format_descriptions.proofs.NameLemmas.{month_next, weekday_next}

-- two words differ in a letter, whatever its case
unfoldable differs : List ℕ → List ℕ → Bool
differs [] b = false
differs (x ∷ a) [] = false
differs (x ∷ a) (y ∷ b) = if to_ascii_lowercase x == to_ascii_lowercase y then differs a b else true

-- a letter that is two letters makes them one but for their case
one_letter : (case : ReadCase) (c x y : ℕ) → is_letter case c x ≡ true → is_letter case c y ≡ true
    → (to_ascii_lowercase x == to_ascii_lowercase y) ≡ true
one_letter Same c x y h k =
    let first : c ≡ x = grind (arith, nat_tests, h) in
    let second : c ≡ y = grind (arith, nat_tests, k) in
    rw (← first, ← second) (grind (arith, nat_tests))
one_letter Any c x y h k =
    let first : to_ascii_lowercase c ≡ to_ascii_lowercase x = grind (arith, nat_tests, h) in
    let second : to_ascii_lowercase c ≡ to_ascii_lowercase y = grind (arith, nat_tests, k) in
    rw (← first, ← second) (grind (arith, nat_tests))

-- a text that begins with a word does not begin with one that differs from it
not_both : (case : ReadCase) (a b text rest : List ℕ) → differs a b ≡ true → Some rest ≡ word_at case a text → word_at case b text ≡ None
unfolding differs word_at letter_at
not_both case [] b text rest h is = absurd cc
not_both case (x ∷ a) [] text rest h is = absurd cc
not_both case (x ∷ a) (y ∷ b) [] rest h is = absurd cc
not_both case (x ∷ a) (y ∷ b) (c ∷ text) rest h is = elim (cases_Bool (is_letter case c x)) [
  | inl t ↦ elim (cases_Bool (is_letter case c y)) [
    | inl u ↦ rw u (not_both case a b text rest (rw (one_letter case c x y t u) at h) (rw t at is))
    | inr g ↦ rw g refl
  ]
  | inr f ↦ let none = rw f at is in absurd cc
]

-- the words of months
abbrev month_word : NameForm → ℕ → List ℕ
month_word form n = name_in_form form (name_of_month n)

abbrev weekday_word : NameForm → ℕ → List ℕ
weekday_word form n = name_in_form form (name_of_weekday n)

-- the words of so many months after one differ from its word
unfoldable later_months : NameForm → ℕ → ℕ → Bool
later_months form g zero = true
later_months form g (suc d) = differs (month_word form g) (month_word form (suc (g + d))) && later_months form g d

unfoldable later_weekdays : NameForm → ℕ → ℕ → Bool
later_weekdays form g zero = true
later_weekdays form g (suc d) = differs (weekday_word form g) (weekday_word form (suc (g + d))) && later_weekdays form g d

found_month : (form : NameForm) (case : ReadCase) (g d : ℕ) (text rest : List ℕ) → 0 < g → later_months form g d ≡ true
    → Some rest ≡ word_at case (month_word form g) text → month_at form case (g + d) text ≡ Some (g, rest)
unfolding later_months
found_month form case g zero text rest some h is =
    let same : g + 0 ≡ g = omega arith in
    ap (λ k. month_at form case k text) same ∙ (month_next form case g text some ∙ ap (λ w. named g (month_at form case (g - 1) text) w) (sym is))
found_month form case g (suc d) text rest some h is =
    let parts = and_parts _ _ h in
    let before : suc (g + d) - 1 ≡ g + d = omega arith in
    let none : word_at case (month_word form (suc (g + d))) text ≡ None =
    not_both case (month_word form g) (month_word form (suc (g + d))) text rest parts.0 is
    in
    let whole : g + suc d ≡ suc (g + d) = omega arith in
    ap (λ k. month_at form case k text) whole ∙
    (month_next form case (suc (g + d)) text (omega arith) ∙
    (ap (λ w. named (suc (g + d)) (month_at form case (suc (g + d) - 1) text) w) none ∙
    (ap (λ k. month_at form case k text) before ∙ found_month form case g d text rest some parts.1 is)))

found_weekday : (form : NameForm) (case : ReadCase) (g d : ℕ) (text rest : List ℕ) → later_weekdays form g d ≡ true
    → Some rest ≡ word_at case (weekday_word form g) text → weekday_at form case (suc (g + d)) text ≡ Some (g, rest)
unfolding later_weekdays
found_weekday form case g zero text rest h is =
    let before : suc g - 1 ≡ g = omega arith in
    let word : Some rest ≡ word_at case (weekday_word form (suc g - 1)) text = rw before is in
    let same : suc (g + 0) ≡ suc g = omega arith in
    ap (λ k. weekday_at form case k text) same ∙
    (weekday_next form case (suc g) text (omega arith) ∙
    (ap (λ w. named (suc g - 1) (weekday_at form case (suc g - 1) text) w) (sym word) ∙ ap (λ k. Some (k, rest)) before))
found_weekday form case g (suc d) text rest h is =
    let parts = and_parts _ _ h in
    let before : suc (suc (g + d)) - 1 ≡ suc (g + d) = omega arith in
    let none : word_at case (weekday_word form (suc (suc (g + d)) - 1)) text ≡ None =
    rw before (not_both case (weekday_word form g) (weekday_word form (suc (g + d))) text rest parts.0 is)
    in
    let whole : suc (g + suc d) ≡ suc (suc (g + d)) = omega arith in
    ap (λ k. weekday_at form case k text) whole ∙
    (weekday_next form case (suc (suc (g + d))) text (omega arith) ∙
    (ap (λ w. named (suc (suc (g + d)) - 1) (weekday_at form case (suc (suc (g + d)) - 1) text) w) none ∙
    (ap (λ k. weekday_at form case k text) before ∙ found_weekday form case g d text rest parts.1 is)))

-- the month whose name the text begins with is the one that is read
pub likely_month : (form : NameForm) (case : ReadCase) (g : ℕ) (text rest : List ℕ) → 1 ≤ g → g ≤ 12
    → Some rest ≡ word_at case (month_word form g) text → Some (g, rest) ≡ month_at form case 12 text
unfolding differs later_months month_of_number
likely_month Long case zero t r low high h =
    absurd (omega (arith, low))
likely_month Long case (suc zero) t r low high h =
    sym (found_month Long case 1 11 t r (omega arith) refl h)
likely_month Long case (suc (suc zero)) t r low high h =
    sym (found_month Long case 2 10 t r (omega arith) refl h)
likely_month Long case (suc (suc (suc zero))) t r low high h =
    sym (found_month Long case 3 9 t r (omega arith) refl h)
likely_month Long case (suc (suc (suc (suc zero)))) t r low high h =
    sym (found_month Long case 4 8 t r (omega arith) refl h)
likely_month Long case (suc (suc (suc (suc (suc zero))))) t r low high h =
    sym (found_month Long case 5 7 t r (omega arith) refl h)
likely_month Long case (suc (suc (suc (suc (suc (suc zero)))))) t r low high h =
    sym (found_month Long case 6 6 t r (omega arith) refl h)
likely_month Long case (suc (suc (suc (suc (suc (suc (suc zero))))))) t r low high h =
    sym (found_month Long case 7 5 t r (omega arith) refl h)
likely_month Long case (suc (suc (suc (suc (suc (suc (suc (suc zero)))))))) t r low high h =
    sym (found_month Long case 8 4 t r (omega arith) refl h)
likely_month Long case (suc (suc (suc (suc (suc (suc (suc (suc (suc zero))))))))) t r low high h =
    sym (found_month Long case 9 3 t r (omega arith) refl h)
likely_month Long case (suc (suc (suc (suc (suc (suc (suc (suc (suc (suc zero)))))))))) t r low high h =
    sym (found_month Long case 10 2 t r (omega arith) refl h)
likely_month Long case (suc (suc (suc (suc (suc (suc (suc (suc (suc (suc (suc zero))))))))))) t r low high h =
    sym (found_month Long case 11 1 t r (omega arith) refl h)
likely_month Long case (suc (suc (suc (suc (suc (suc (suc (suc (suc (suc (suc (suc zero)))))))))))) t r low high h =
    sym (found_month Long case 12 0 t r (omega arith) refl h)
likely_month Long case (suc (suc (suc (suc (suc (suc (suc (suc (suc (suc (suc (suc (suc n))))))))))))) t r low high h =
    absurd (omega (arith, high))
likely_month Short case zero t r low high h =
    absurd (omega (arith, low))
likely_month Short case (suc zero) t r low high h =
    sym (found_month Short case 1 11 t r (omega arith) refl h)
likely_month Short case (suc (suc zero)) t r low high h =
    sym (found_month Short case 2 10 t r (omega arith) refl h)
likely_month Short case (suc (suc (suc zero))) t r low high h =
    sym (found_month Short case 3 9 t r (omega arith) refl h)
likely_month Short case (suc (suc (suc (suc zero)))) t r low high h =
    sym (found_month Short case 4 8 t r (omega arith) refl h)
likely_month Short case (suc (suc (suc (suc (suc zero))))) t r low high h =
    sym (found_month Short case 5 7 t r (omega arith) refl h)
likely_month Short case (suc (suc (suc (suc (suc (suc zero)))))) t r low high h =
    sym (found_month Short case 6 6 t r (omega arith) refl h)
likely_month Short case (suc (suc (suc (suc (suc (suc (suc zero))))))) t r low high h =
    sym (found_month Short case 7 5 t r (omega arith) refl h)
likely_month Short case (suc (suc (suc (suc (suc (suc (suc (suc zero)))))))) t r low high h =
    sym (found_month Short case 8 4 t r (omega arith) refl h)
likely_month Short case (suc (suc (suc (suc (suc (suc (suc (suc (suc zero))))))))) t r low high h =
    sym (found_month Short case 9 3 t r (omega arith) refl h)
likely_month Short case (suc (suc (suc (suc (suc (suc (suc (suc (suc (suc zero)))))))))) t r low high h =
    sym (found_month Short case 10 2 t r (omega arith) refl h)
likely_month Short case (suc (suc (suc (suc (suc (suc (suc (suc (suc (suc (suc zero))))))))))) t r low high h =
    sym (found_month Short case 11 1 t r (omega arith) refl h)
likely_month Short case (suc (suc (suc (suc (suc (suc (suc (suc (suc (suc (suc (suc zero)))))))))))) t r low high h =
    sym (found_month Short case 12 0 t r (omega arith) refl h)
likely_month Short case (suc (suc (suc (suc (suc (suc (suc (suc (suc (suc (suc (suc (suc n))))))))))))) t r low high h =
    absurd (omega (arith, high))

-- the same of a day of the week
pub likely_weekday : (form : NameForm) (case : ReadCase) (g : ℕ) (text rest : List ℕ) → g < 7
    → Some rest ≡ word_at case (weekday_word form g) text → Some (g, rest) ≡ weekday_at form case 7 text
unfolding differs later_weekdays weekday_of_number
likely_weekday Long case zero t r high h =
    sym (found_weekday Long case 0 6 t r refl h)
likely_weekday Long case (suc zero) t r high h =
    sym (found_weekday Long case 1 5 t r refl h)
likely_weekday Long case (suc (suc zero)) t r high h =
    sym (found_weekday Long case 2 4 t r refl h)
likely_weekday Long case (suc (suc (suc zero))) t r high h =
    sym (found_weekday Long case 3 3 t r refl h)
likely_weekday Long case (suc (suc (suc (suc zero)))) t r high h =
    sym (found_weekday Long case 4 2 t r refl h)
likely_weekday Long case (suc (suc (suc (suc (suc zero))))) t r high h =
    sym (found_weekday Long case 5 1 t r refl h)
likely_weekday Long case (suc (suc (suc (suc (suc (suc zero)))))) t r high h =
    sym (found_weekday Long case 6 0 t r refl h)
likely_weekday Long case (suc (suc (suc (suc (suc (suc (suc n))))))) t r high h =
    absurd (omega (arith, high))
likely_weekday Short case zero t r high h =
    sym (found_weekday Short case 0 6 t r refl h)
likely_weekday Short case (suc zero) t r high h =
    sym (found_weekday Short case 1 5 t r refl h)
likely_weekday Short case (suc (suc zero)) t r high h =
    sym (found_weekday Short case 2 4 t r refl h)
likely_weekday Short case (suc (suc (suc zero))) t r high h =
    sym (found_weekday Short case 3 3 t r refl h)
likely_weekday Short case (suc (suc (suc (suc zero)))) t r high h =
    sym (found_weekday Short case 4 2 t r refl h)
likely_weekday Short case (suc (suc (suc (suc (suc zero))))) t r high h =
    sym (found_weekday Short case 5 1 t r refl h)
likely_weekday Short case (suc (suc (suc (suc (suc (suc zero)))))) t r high h =
    sym (found_weekday Short case 6 0 t r refl h)
likely_weekday Short case (suc (suc (suc (suc (suc (suc (suc n))))))) t r high h =
    absurd (omega (arith, high))
