-- The first days of neighbouring years.
use Rattle.std.proofs.Common.{◌≡◌, arith, ℤ, pos, ◌+ℤ◌, ◌-ℤ◌, w32, to_z, of_z}
use Rattle.std.proofs.lemmas.Int.{ints}
use Rattle.calendar_values.specs.Calendar.{days_in_year, year_start}
use Rattle.calendar_values.specs.Range.{IsYear}
use Rattle.calendar_values.specs.SignedArith.{signed_arith, signed_casts}
use Rattle.calendar_values.specs.YearLemmas.{year_start-next, days_in_year_bounds}

-- the year begins after the days of the one before
pub year_start-previous : (y : ℤ) → year_start y ≡ year_start (y -ℤ pos 1) +ℤ pos (days_in_year (y -ℤ pos 1))
year_start-previous y =
    let same : y -ℤ pos 1 +ℤ pos 1 ≡ y = omega (arith, ints) in
    rw same at (year_start-next (y -ℤ pos 1))

pub year_before : (y : ℤ) → IsYear y → to_z w32 (of_z w32 (to_z w32 (of_z w32 y) -ℤ pos 1)) ≡ y -ℤ pos 1
year_before y h = omega (arith, signed_arith)

pub year_after : (y : ℤ) → IsYear y → to_z w32 (of_z w32 (to_z w32 (of_z w32 y) +ℤ pos 1)) ≡ y +ℤ pos 1
year_after y h = omega (arith, signed_arith)

pub ruleset year_lengths = (signed_casts, days_in_year_bounds)
