-- The years of mail are those that it writes.
use Rattle.std.proofs.Common.{◌≡◌, ℕ, ◌<◌, ◌||◌, refl, arith, false, List, Option, None, Some, inl, inr, pos, nat_lt}
use Rattle.std.specs.Prelude.{IsTrue, IfSome, is_some}
use Rattle.std.proofs.lemmas.Bool.{cases_Bool}
use Rattle.std.proofs.lemmas.Bool.Decides.{nat_tests}
use Rattle.calendar_values.specs.SignedArith.{signed_arith}
use Rattle.rfc3339.specs.FormLemmas.{bind_some, two_takes}
use Rattle.rfc3339.specs.Reading.{digit_at, two_digits_at}
use Rattle.format_descriptions.specs.Rfc2822.{mail_year, year_if_whole, mail_year_at}
use Rattle.format_descriptions.specs.WellKnown.{is_mail_year}

two-below : (text : List ℕ) (o : Option (ℕ × List ℕ)) → two_digits_at text ≡ o → IfSome o (λ read. read.0 < 100)
two-below text None e = tt
two-below text (Some read) e = let got = two_takes text read.0 read.1 e in got.fits

mail_year-below : (first : ℕ × List ℕ) (last : Option (ℕ × List ℕ)) → first.0 < 100 → IfSome last (λ read. read.0 < 100)
    → (mail_year first last).0 < 10_000
mail_year-below first None low next = omega arith
mail_year-below first (Some last) low next = omega (arith, next)

whole-mail_year : (year : ℕ × List ℕ) (n : ℕ) (rest : List ℕ) → year.0 < 10_000 → year_if_whole year ≡ Some (n, rest)
    → IsTrue (is_mail_year (pos n))
whole-mail_year year n rest low h = elim (cases_Bool (nat_lt year.0 1_900 || is_some (digit_at year.1))) [
  | inl t ↦ let e = rw t at h in absurd cc
  | inr f ↦
      let same : Some year ≡ Some (n, rest) = rw f at h in
      let number : year.0 ≡ n = cc in
      let high : nat_lt year.0 1_900 ≡ false = grind (arith, nat_tests) in
      grind (arith, nat_tests, signed_arith)
]

-- a year that is read is from 1900 to 9999
pub mail_year_at-years : (text rest : List ℕ) (n : ℕ) → mail_year_at text ≡ Some (n, rest) → IsTrue (is_mail_year (pos n))
unfolding mail_year_at
mail_year_at-years text rest n h =
    let first = bind_some _ _ _ h in
    let got = two_takes text first.0.0 first.0.1 first.1 in
    whole-mail_year (mail_year first.0 (two_digits_at first.0.1)) n rest
    (mail_year-below first.0 (two_digits_at first.0.1) got.fits (two-below first.0.1 (two_digits_at first.0.1) refl)) first.2
