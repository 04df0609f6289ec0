-- Where the years of the range begin, in forms that `omega` applies by itself.
use Rattle.std.proofs.Common.{◌+◌, ◌-◌, ◌≡◌, ◌≤◌, arith, ℤ, pos, ◌+ℤ◌}
use borrow.Author.Differences.{up, down}
use Rattle.calendar_values.specs.Calendar.{year_start}
use Rattle.calendar_values.specs.Range.{IsYear, first_year, last_year}
use Rattle.calendar_values.specs.SignedArith.{signed_arith}
use Rattle.calendar_values.specs.YearLemmas.{days_from_0, year_start-closed, year_start-mono, year_start-later, year_start-first, year_start-after_last}

-- 1 January, counted from 1 January of the year -1_000_00000
pub year_start-years : (y : ℤ) → IsYear y → up (year_start y) + 365_962_028 ≡ down (year_start y) + days_from_0 (up y + 1_000_000 - down y)
year_start-years y h =
    let closed = year_start-closed 2500 (up y + 1_000_000 - down y) y (omega (arith, signed_arith)) in
    omega (arith, signed_arith)

pub year_start_bounds : (y : ℤ) → IsYear y → (down (year_start y) ≤ up (year_start y) + 365_961_662) × (up (year_start y) ≤ down (year_start y) + 364_522_607)
year_start_bounds y h =
    let low = year_start-mono first_year y h.0 in
    let high = year_start-later y (last_year +ℤ pos 1) (omega (arith, signed_arith)) in
    (omega (arith, signed_arith, year_start-first), omega (arith, signed_arith, year_start-after_last))

pub ruleset year_starts = (signed_arith, year_start-years, year_start_bounds)
