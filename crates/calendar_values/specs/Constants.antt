-- The first days of the years of the constants.
-- A caller who lists `constants` once, at its root, names each constant of each type.
use Rattle.std.proofs.Common.{◌≡◌, pos, arith, to_z-of_z}
use Rattle.calendar_values.specs.Calendar.{year_start}
use Rattle.calendar_values.specs.Range.{last_year}
use Rattle.calendar_values.specs.SignedArith.{signed_arith}
use Rattle.calendar_values.specs.YearLemmas.{year_start-1970, year_start-first, year_start-after_last, year_start-next}

pub year_start-last : year_start last_year ≡ pos 364_522_607
year_start-last = omega (arith, signed_arith, year_start-after_last, year_start-next last_year)

-- with the numbers that a caller writes
pub ruleset constants = (year_start-first, year_start-last, year_start-1970, to_z-of_z)
