-- Months and days of the week by their numbers.
use Rattle.std.proofs.Common.{◌≡◌, ℕ, suc, zero, ◌-◌, ◌<◌, List, arith, refl}
use Rattle.format_descriptions.specs.Reading.{named, word_at, month_at, weekday_at}
use Rattle.format_descriptions.specs.Written.{name_in_form}
use Rattle.format_descriptions.specs.declared.modifiers.NameForm.{NameForm}
use Rattle.format_descriptions.specs.declared.modifiers.ReadCase.{ReadCase}
use Rattle.format_descriptions.specs.Names.{name_of_month, name_of_weekday}

-- the last month's name, or else one of the others
pub month_next : (form : NameForm) (case : ReadCase) (n : ℕ) (text : List ℕ) → 0 < n
    → month_at form case n text ≡ named n (month_at form case (n - 1) text) (word_at case (name_in_form form (name_of_month n)) text)
unfolding month_at
month_next form case zero text some = absurd (omega (arith, some))
month_next form case (suc n) text some = let same : suc n - 1 ≡ n = omega arith in rw same refl

-- the last day's name, or else one of the others
pub weekday_next : (form : NameForm) (case : ReadCase) (n : ℕ) (text : List ℕ) → 0 < n
    → weekday_at form case n text ≡ named (n - 1) (weekday_at form case (n - 1) text) (word_at case (name_in_form form (name_of_weekday (n - 1))) text)
unfolding weekday_at
weekday_next form case zero text some = absurd (omega (arith, some))
weekday_next form case (suc n) text some = let same : suc n - 1 ≡ n = omega arith in rw same refl
