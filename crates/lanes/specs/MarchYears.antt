-- The days up to a date, in years that begin on 1 March: a leap day is the last of its year.
-- Years are counted from the year -1000000.
use Rattle.std.specs.Prelude.{ℕ, ◌+◌, ◌-◌, ◌*◌, ◌/◌, ◌%◌, ◌^◌, Bool, ◌&&◌, ◌==◌, nat_lt, nat_le, List, [], ◌∷◌, if◌then◌else◌}

-- the number of a test in a lane: 1 if the test passes, and else 0
abbrev pub bit_of : Bool → ℕ
bit_of passes = if passes then 1 else 0

-- a number is in a range
abbrev pub is_within : ℕ → ℕ → ℕ → Bool
is_within first last n = nat_le first n && nat_le n last

-- 1 for a month before March, and else 0
abbrev pub month_before_march : ℕ → ℕ
month_before_march month = if nat_lt month 3 then 1 else 0

-- the year that began on 1 March, by the year and the month
abbrev pub march_year_of : ℕ → ℕ → ℕ
march_year_of years month = (years + (2 ^ 32 - month_before_march month)) % 2 ^ 32

-- 1 for a leap year, and else 0, by the year and the year that began on 1 March before February
abbrev pub leap_day_of : ℕ → ℕ → ℕ
leap_day_of years march = if years % (if march % 100 == 99 then 16 else 4) == 0 then 1 else 0

-- the days of a month, by the 1 or 0 of `leap_day_of`
abbrev pub month_length_of : ℕ → ℕ → ℕ
month_length_of leap_day month = if month == 2 then 28 + leap_day else 30 + (month + month / 8) % 2

-- the days from 1 March of the year -1000000 to 1 March of a year
abbrev pub days_to_march : ℕ → ℕ
days_to_march march = 1_461 * march / 4 - march / 100 + march / 100 / 4

-- the days from 1 March to the first of a month
abbrev pub days_from_march : ℕ → ℕ
days_from_march month = ((month + 12 * month_before_march month) * 979 - 2_919) / 32
