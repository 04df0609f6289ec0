-- The order of days is that of their years and days of the year.
use Rattle.std.proofs.Common.{◌≡◌, ℕ, false, sym, ap, ◌∙◌, arith, ℤ, pos, ◌+ℤ◌, ◌<ℤ◌, nat_cmp}
use Rattle.std.proofs.lemmas.Int.{ints}
use Rattle.std.specs.Ordering.{int_cmp, int_eq, ordering_then}
use Rattle.calendar_values.specs.Calendar.{year_start, year_of, day_of_ordinal_date, IsOrdinalDate}
use Rattle.calendar_values.specs.OrderLemmas.{int_cmp-parts}
use Rattle.calendar_values.specs.SignedArith.{signed_arith}
use Rattle.calendar_values.specs.DayLemmas.{year_of-is}
use Rattle.calendar_values.specs.YearLemmas.{year_start-next, year_start-mono}

-- a day of an earlier year comes before
earlier_year : (y z : ℤ) (o p : ℕ) → IsOrdinalDate y o → IsOrdinalDate z p → y <ℤ z → day_of_ordinal_date y o <ℤ day_of_ordinal_date z p
earlier_year y z o p h k lt =
    omega (arith, signed_arith, year_start-next y, year_start-mono (y +ℤ pos 1) z (omega (arith, signed_arith)), h.last, k.first)

pub cmp-ordinal_dates : (y z : ℤ) (o p : ℕ) → IsOrdinalDate y o → IsOrdinalDate z p →
    ordering_then (int_cmp y z) (nat_cmp o p) ≡ int_cmp (day_of_ordinal_date y o) (day_of_ordinal_date z p)
cmp-ordinal_dates y z o p h k =
    int_cmp-parts y z _ _ o p (earlier_year y z o p h k) (earlier_year z y p o k h) (λ e. let start = ap year_start e in omega (arith, signed_arith))

int_eq-apart : (m n : ℤ) → ¬ (m ≡ n) → int_eq m n ≡ false
int_eq-apart m n h = grind (arith, ints)

-- dates of two years differ
pub eq-ordinal_dates : (m n y z : ℤ) (o p : ℕ) → IsOrdinalDate y o → IsOrdinalDate z p → day_of_ordinal_date y o ≡ m → day_of_ordinal_date z p ≡ n → ¬ (y ≡ z) →
    int_eq m n ≡ false
eq-ordinal_dates m n y z o p h k e f apart =
    int_eq-apart m n (λ same. apart (sym (year_of-is m y o h e) ∙ ap year_of same ∙ year_of-is n z p k f))
