-- Names that are read, by the number of the month or of the day of the week.
use Rattle.std.proofs.Common.{◌≡◌, ℕ, zero, suc, ◌≤◌, List, Option, Some, None, refl, sym, ap, arith}
use Rattle.format_descriptions.specs.Names.{name_of_month, name_of_weekday}
use Rattle.format_descriptions.specs.Reading.{word_at, named, month_at, weekday_at}
use Rattle.format_descriptions.specs.Written.{name_in_form}
use Rattle.format_descriptions.specs.declared.modifiers.NameForm.{NameForm}
use Rattle.format_descriptions.specs.declared.modifiers.ReadCase.{ReadCase}

-- a name that is read, by its number
pub record IsNamed (case : ReadCase) (first last n : ℕ) (name text rest : List ℕ) : Type 0 where
  pub low : first ≤ n
  pub high : n ≤ last
  pub name_read : word_at case name text ≡ Some rest

month-on : (form : NameForm) (case : ReadCase) (k n : ℕ) (text rest : List ℕ) (o : Option (List ℕ))
    → word_at case (name_in_form form (name_of_month (suc k))) text ≡ o
    → (month_at form case k text ≡ Some (n, rest) → IsNamed case 1 k n (name_in_form form (name_of_month n)) text rest)
    → named (suc k) (month_at form case k text) o ≡ Some (n, rest)
    → IsNamed case 1 (suc k) n (name_in_form form (name_of_month n)) text rest
month-on form case k n text rest None e others h =
    let got = others h in record { low = got.low; high = omega (arith, got.high); name_read = got.name_read }
month-on form case k n text rest (Some more) e others h =
    let pair : (suc k, more) ≡ (n, rest) = cc in
    let number : n ≡ suc k = sym (ap (λ (z : ℕ × List ℕ). z.0) pair) in
    let behind : rest ≡ more = sym (ap (λ (z : ℕ × List ℕ). z.1) pair) in
    rw (number, behind) (record { low = omega arith; high = omega arith; name_read = e })

pub month-named : (form : NameForm) (case : ReadCase) (k n : ℕ) (text rest : List ℕ) → month_at form case k text ≡ Some (n, rest)
    → IsNamed case 1 k n (name_in_form form (name_of_month n)) text rest
unfolding month_at
month-named form case zero n text rest h = absurd cc
month-named form case (suc k) n text rest h = month-on form case k n text rest _ refl (month-named form case k n text rest) h

weekday-on : (form : NameForm) (case : ReadCase) (k n : ℕ) (text rest : List ℕ) (o : Option (List ℕ))
    → word_at case (name_in_form form (name_of_weekday k)) text ≡ o
    → (weekday_at form case k text ≡ Some (n, rest) → IsNamed case 1 k (suc n) (name_in_form form (name_of_weekday n)) text rest)
    → named k (weekday_at form case k text) o ≡ Some (n, rest)
    → IsNamed case 1 (suc k) (suc n) (name_in_form form (name_of_weekday n)) text rest
weekday-on form case k n text rest None e others h =
    let got = others h in record { low = got.low; high = omega (arith, got.high); name_read = got.name_read }
weekday-on form case k n text rest (Some more) e others h =
    let pair : (k, more) ≡ (n, rest) = cc in
    let number : n ≡ k = sym (ap (λ (z : ℕ × List ℕ). z.0) pair) in
    let behind : rest ≡ more = sym (ap (λ (z : ℕ × List ℕ). z.1) pair) in
    rw (number, behind) (record { low = omega arith; high = omega arith; name_read = e })

pub weekday-named : (form : NameForm) (case : ReadCase) (k n : ℕ) (text rest : List ℕ) → weekday_at form case k text ≡ Some (n, rest)
    → IsNamed case 1 k (suc n) (name_in_form form (name_of_weekday n)) text rest
unfolding weekday_at
weekday-named form case zero n text rest h = absurd cc
weekday-named form case (suc k) n text rest h = weekday-on form case k n text rest _ refl (weekday-named form case k n text rest) h
