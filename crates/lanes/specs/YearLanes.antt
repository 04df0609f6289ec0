-- The year of one lane: the outcomes of tests, as numbers.
use Rattle.std.specs.Prelude.{ℕ, ◌+◌, ◌*◌, ◌/◌, ◌%◌, ◌^◌, ◌≤◌, ◌||◌, ◌==◌, nat_lt, if◌then◌else◌}
use Rattle.calendar_values.specs.Calendar.{year_length}

-- 1 for a year as long as without the rule on centuries, by its century and the fraction of a century
abbrev pub julian_bit : ℕ → ℕ → ℕ
julian_bit century fraction = if nat_lt 42_920_275 fraction || (century % 4 == 0) then 1 else 0

-- 1 for a leap year, by the year and that number
abbrev pub leap_bit : ℕ → ℕ → ℕ
leap_bit years julian = if years % 4 == 0 then julian else 0

-- the day of the year, by the fraction of a year and that number
abbrev pub ordinal_of_fraction : ℕ → ℕ → ℕ
ordinal_of_fraction fraction julian = fraction * 1_461 / 2 ^ 34 + julian

-- 1 or 0 says whether a year is a leap year, and the year has this day
abbrev pub IsOrdinalLane : ℕ → ℕ → Type 0
IsOrdinalLane leap ordinal = (leap ≤ 1) × (1 ≤ ordinal) × (ordinal ≤ year_length (leap == 1))
