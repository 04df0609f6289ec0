-- The year that a product gives for a day, counted from the first cycle of 400 years, and the one before it.
use Rattle.std.proofs.Common.{◌≡◌, ℕ, ◌+◌, ◌-◌, ◌*◌, ◌/◌, ◌^◌, ◌<◌, ◌≤◌, arith, ℤ, pos, ◌+ℤ◌}
use Rattle.calendar_values.specs.Calendar.{days_in_year, day_of_ordinal_date, IsOrdinalDate}
use Rattle.calendar_values.specs.DayLemmas.{year_of-is, IsYear-year_of}
use Rattle.calendar_values.specs.Range.{IsDay, IsYear}
use Rattle.calendar_values.specs.SignedArith.{signed_arith}
use Rattle.calendar_values.specs.YearLemmas.{days_from_0, days_from_0-suc, year_start-closed, leap_day-shift, days_in_year-leap_day}

-- the year before it began on the day or earlier
pub days_from_0-begun : (day : ℕ) → 366 ≤ day → day < 730_485_000 → days_from_0 ((day + 1) * 3_010_360_590 / 2 ^ 40 - 1) ≤ day
days_from_0-begun day low high = omega arith

-- the year after it begins later
pub days_from_0-not_ended : (day : ℕ) → 366 ≤ day → day < 730_485_000 → day < days_from_0 ((day + 1) * 3_010_360_590 / 2 ^ 40 + 1)
days_from_0-not_ended day low high = omega arith

pub ruleset near_years = (days_from_0-begun, days_from_0-not_ended)

-- the days of a year lie between its first day and that of the next
pub ordinal-within : (day years ordinal : ℕ) → days_from_0 years + ordinal ≡ day + 1 → day < days_from_0 (years + 1) → ordinal ≤ days_in_year (pos years)
ordinal-within day years ordinal e h = omega (arith, days_from_0-suc years, days_in_year-leap_day (pos years))

pub ruleset year_lengths = ordinal-within

-- the day of a year and a day of the year
pub day_of_ordinal_date-counted : (n y : ℤ) (day years ordinal : ℕ) → n +ℤ pos 365_962_028 ≡ pos day → y +ℤ pos 1_000_000 ≡ pos years →
    days_from_0 years + ordinal ≡ day + 1 → day_of_ordinal_date y ordinal ≡ n
day_of_ordinal_date-counted n y day years ordinal d e h = omega (arith, signed_arith, year_start-closed 2500 years y e)

pub IsOrdinalDate-counted : (y : ℤ) (years ordinal : ℕ) → y +ℤ pos 1_000_000 ≡ pos years → 1 ≤ ordinal → ordinal ≤ days_in_year (pos years) →
    IsOrdinalDate y ordinal
IsOrdinalDate-counted y years ordinal e low high =
    let shift = leap_day-shift 2500 years y e in
    omega (arith, days_in_year-leap_day y, days_in_year-leap_day (pos years))

pub IsYear-counted : (n y : ℤ) (ordinal : ℕ) → IsDay n → IsOrdinalDate y ordinal → day_of_ordinal_date y ordinal ≡ n → IsYear y
IsYear-counted n y ordinal h o e = rw (← year_of-is n y ordinal o e) (IsYear-year_of n h)

pub ruleset dates_from_first_cycle = (day_of_ordinal_date-counted, IsOrdinalDate-counted, IsYear-counted)
