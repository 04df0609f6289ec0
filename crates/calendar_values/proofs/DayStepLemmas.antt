-- A day is kept exactly if the range has it.
use Rattle.std.proofs.Common.{◌≡◌, ℕ, ℤ, Option, SomeIff, subst}
use Rattle.calendar_values.specs.Calendar.{day_of_ordinal_date, IsOrdinalDate}
use Rattle.calendar_values.specs.Range.{IsDay, IsYear}
use Rattle.calendar_values.specs.DayLemmas.{IsDay-ordinal_date}

-- the day of a year of the range is kept
pub IsDay-date : (n y : ℤ) (ordinal : ℕ) → IsYear y → IsOrdinalDate y ordinal → day_of_ordinal_date y ordinal ≡ n → IsDay n ×
    (day_of_ordinal_date y ordinal ≡ n)
IsDay-date n y ordinal year date e = (rw (← e) (IsDay-ordinal_date y ordinal year date), e)

-- a number that is kept if the range has it is kept under each of its forms
pub IsDay-same : (r : Option ℤ) (m n : ℤ) → SomeIff r (IsDay m) m → m ≡ n → SomeIff r (IsDay n) n
IsDay-same r m n h e = subst (λ (k : ℤ). SomeIff r (IsDay k) k) e h
