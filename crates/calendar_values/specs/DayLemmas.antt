-- Each day is in one year, and is one day of that year.
use Rattle.std.proofs.Common.{◌≡◌, ℕ, zero, suc, refl, cond, Bool, true, false, arith, ℤ, pos, negsuc, neg_ℤ, ◌+ℤ◌, ◌-ℤ◌, int_lt}
use Rattle.std.proofs.lemmas.Int.{by_lt_z}
use Rattle.calendar_values.specs.Calendar.{year_start, IsInYear, IsOrdinalDate, year_after_1970, year_before_1970, year_of, ordinal_of, day_of_ordinal_date}
use Rattle.calendar_values.specs.Range.{first_year, last_year, first_day, last_day, IsYear, IsDay}
use Rattle.calendar_values.specs.SignedArith.{signed_arith, one_part}
use Rattle.calendar_values.specs.YearLemmas.{year_start-1970, year_start-next, year_start-mono, year_start-first, year_start-after_last, IsInYear-unique}
use Rattle.calendar_values.specs.YearLemmas.{days_in_year_bounds}

in_1970 : IsInYear (pos 0) (pos 1970)
in_1970 = omega (arith, signed_arith, year_start-1970, year_start-next (pos 1970), days_in_year_bounds (pos 1970))

-- the next day is in the same year, or begins the next year
IsInYear-next : (n next y : ℤ) → next ≡ n +ℤ pos 1 → IsInYear n y → IsInYear next (cond (int_lt next (year_start (y +ℤ pos 1))) y (y +ℤ pos 1))
IsInYear-next n next y e h = choose (int_lt next (year_start (y +ℤ pos 1))) refl where
  choose : (b : Bool) → int_lt next (year_start (y +ℤ pos 1)) ≡ b → IsInYear next (cond b y (y +ℤ pos 1))
  choose true t = omega (arith, signed_arith)
  choose false t = omega (arith, signed_arith, year_start-next (y +ℤ pos 1), days_in_year_bounds (y +ℤ pos 1))

-- the day before is in the same year, or ends the year before
IsInYear-previous : (n previous y : ℤ) → n ≡ previous +ℤ pos 1 → IsInYear n y → IsInYear previous (cond (int_lt previous (year_start y)) (y -ℤ pos 1) y)
IsInYear-previous n previous y e h = choose (int_lt previous (year_start y)) refl where
  choose : (b : Bool) → int_lt previous (year_start y) ≡ b → IsInYear previous (cond b (y -ℤ pos 1) y)
  choose true t =
      let back : y -ℤ pos 1 +ℤ pos 1 ≡ y = omega (arith, signed_arith) in
      let start = rw back at (year_start-next (y -ℤ pos 1)) in
      record { low = omega (arith, signed_arith, days_in_year_bounds (y -ℤ pos 1)); high = rw back (omega (arith, signed_arith)) }
  choose false t = omega (arith, signed_arith)

in_year_after : (n : ℕ) → IsInYear (pos n) (year_after_1970 n)
unfolding year_after_1970
in_year_after zero = in_1970
in_year_after (suc n) = IsInYear-next (pos n) (pos (suc n)) (year_after_1970 n) (omega (arith, signed_arith)) (in_year_after n)

in_year_before : (n : ℕ) → IsInYear (neg_ℤ (pos n)) (year_before_1970 n)
unfolding year_before_1970
in_year_before zero = in_1970
in_year_before (suc n) = IsInYear-previous (neg_ℤ (pos n)) (negsuc n) (year_before_1970 n) (omega (arith, signed_arith)) (in_year_before n)

-- each day is in its year
pub IsInYear-year_of : (n : ℤ) → IsInYear n (year_of n)
unfolding year_of
IsInYear-year_of (pos n) = in_year_after n
IsInYear-year_of (negsuc n) = in_year_before (suc n)

-- each day is in no other year
pub year_of-unique : (n y : ℤ) → IsInYear n y → year_of n ≡ y
year_of-unique n y h = IsInYear-unique n (year_of n) y (IsInYear-year_of n) h

-- the day of the year counts the days from 1 January on
pub ordinal_of-start : (n : ℤ) → year_start (year_of n) +ℤ pos (ordinal_of n) ≡ n +ℤ pos 1
unfolding ordinal_of
ordinal_of-start n = let h = IsInYear-year_of n in omega (arith, signed_arith, one_part (n -ℤ year_start (year_of n)))

-- the year of a day has its day of the year
pub IsOrdinalDate-of : (n : ℤ) → IsOrdinalDate (year_of n) (ordinal_of n)
IsOrdinalDate-of n =
    let h = IsInYear-year_of n in
    omega (arith, signed_arith, ordinal_of-start n, year_start-next (year_of n))

-- the day number of that year and that day of the year is the day
pub day_of_ordinal_date-of : (n : ℤ) → day_of_ordinal_date (year_of n) (ordinal_of n) ≡ n
day_of_ordinal_date-of n = omega (arith, signed_arith, ordinal_of-start n)

-- the day number of a year and a day of the year has both
pub year_of-ordinal_date : (y : ℤ) (ordinal : ℕ) → IsOrdinalDate y ordinal → year_of (day_of_ordinal_date y ordinal) ≡ y
year_of-ordinal_date y ordinal h =
    year_of-unique _ y (omega (arith, signed_arith, year_start-next y))

pub ordinal_of-ordinal_date : (y : ℤ) (ordinal : ℕ) → IsOrdinalDate y ordinal → ordinal_of (day_of_ordinal_date y ordinal) ≡ ordinal
ordinal_of-ordinal_date y ordinal h =
    omega (arith, signed_arith, rw (year_of-ordinal_date y ordinal h) at (ordinal_of-start (day_of_ordinal_date y ordinal)))

-- the same for a number that equals that day number
pub year_of-is : (n y : ℤ) (ordinal : ℕ) → IsOrdinalDate y ordinal → day_of_ordinal_date y ordinal ≡ n → year_of n ≡ y
year_of-is n y ordinal h e = rw (← e) (year_of-ordinal_date y ordinal h)

pub ordinal_of-is : (n y : ℤ) (ordinal : ℕ) → IsOrdinalDate y ordinal → day_of_ordinal_date y ordinal ≡ n → ordinal_of n ≡ ordinal
ordinal_of-is n y ordinal h e = rw (← e) (ordinal_of-ordinal_date y ordinal h)

-- a day of the range is in a year of the range
pub IsYear-year_of : (n : ℤ) → IsDay n → IsYear (year_of n)
IsYear-year_of n h =
    let here = IsInYear-year_of n in (
      by_lt_z (year_of n) first_year (λ lt. let start = year_start-mono (year_of n +ℤ pos 1) first_year (omega (arith, signed_arith)) in
          absurd (omega (arith, signed_arith, h.0, year_start-first))) (λ ge. ge),
      by_lt_z last_year (year_of n) (λ gt. let start = year_start-mono (last_year +ℤ pos 1) (year_of n) (omega (arith, signed_arith)) in
          absurd (omega (arith, signed_arith, h.1, year_start-after_last))) (λ le. le),
    )

-- each day of a year of the range is a day of the range
pub IsDay-ordinal_date : (y : ℤ) (ordinal : ℕ) → IsYear y → IsOrdinalDate y ordinal → IsDay (day_of_ordinal_date y ordinal)
IsDay-ordinal_date y ordinal year h =
    let low = year_start-mono first_year y year.0 in
    let high = year_start-mono (y +ℤ pos 1) (last_year +ℤ pos 1) (omega (arith, signed_arith, year.1)) in
    (omega (arith, signed_arith, year_start-first, h.first), omega (arith, signed_arith, year_start-after_last, year_start-next y, h.last))

-- the first day and the last, by their years
pub day_of_ordinal_date-first : day_of_ordinal_date first_year 1 ≡ first_day
day_of_ordinal_date-first = omega (arith, signed_arith, year_start-first)

pub day_of_ordinal_date-last : day_of_ordinal_date last_year 365 ≡ last_day
day_of_ordinal_date-last = omega (arith, signed_arith, year_start-after_last, year_start-next last_year)
