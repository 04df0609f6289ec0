-- The year of a day by two multiplications: days are counted from a year that 400 divides.
-- A product with a reciprocal has its whole part in one word and its fraction in the word below.
use Rattle.std.specs.Prelude.{ℕ, ◌+◌, ◌-◌, ◌*◌, ◌/◌, ◌%◌, ◌^◌, ◌≤◌, Bool, ◌&&◌, ◌||◌, ◌==◌, nat_lt, if◌then◌else◌, ℤ, pos, ◌+ℤ◌, ◌-ℤ◌, unsigned_abs}

-- the day n, counted from 1 January of the year -2379600, 5,949 spans of 400 years before the year 0
abbrev pub shifted_day : ℤ → ℕ
shifted_day n = unsigned_abs (n +ℤ pos 869_850_581)

-- the days of the range, counted from there
abbrev pub IsShiftedDay : ℕ → Type 0
IsShiftedDay day = (503_888_919 ≤ day) × (day ≤ 1_234_373_552)

-- a day times 4 / 146,097, the centuries up to it, with 32 binary places: the multiplier is 2^49 / 146,097 rounded down
abbrev pub scaled_centuries : ℕ → ℕ
scaled_centuries day = day * 3_853_261_555 / 2 ^ 15

-- the whole centuries; on the first day of each 400 years one too few
abbrev pub century_of : ℕ → ℕ
century_of day = scaled_centuries day / 2 ^ 32

-- the fraction of a century
abbrev pub century_fraction_of : ℕ → ℕ
century_fraction_of day = scaled_centuries day % 2 ^ 32

-- the year is as long as without the rule on centuries;
-- its century begins with a leap year, or the first year of its century is past
abbrev pub is_julian_year : ℕ → Bool
is_julian_year day = nat_lt 42_920_275 (century_fraction_of day) || (century_of day % 4 == 0)

-- the day, counted in a calendar without the rule on centuries
abbrev pub julian_count : ℕ → ℕ
julian_count day = day - century_of day / 4 + century_of day

-- the days of the range, counted in that calendar
abbrev pub IsJulianCount : ℕ → Type 0
IsJulianCount count = (503_899_266 ≤ count) × (count ≤ 1_234_398_899)

-- a day of that calendar times 4 / 1,461, the years up to it, with 32 binary places: the multiplier is 2^42 / 1,461 rounded up
abbrev pub scaled_years : ℕ → ℕ
scaled_years count = count * 3_010_298_776 / 2 ^ 8

-- the whole years
abbrev pub julian_year_of : ℕ → ℕ
julian_year_of count = scaled_years count / 2 ^ 32

-- the fraction of a year
abbrev pub julian_year_fraction_of : ℕ → ℕ
julian_year_fraction_of count = scaled_years count % 2 ^ 32

-- the years from the year -2379600 to that of a day
abbrev pub years_of : ℕ → ℕ
years_of day = julian_year_of (julian_count day)

-- the year, whether it is a leap year, and the day of the year, by these steps
abbrev pub step_year : ℕ → ℤ
step_year day = pos (years_of day) -ℤ pos 2_379_600

abbrev pub step_leap : ℕ → Bool
step_leap day = (years_of day % 4 == 0) && is_julian_year day

abbrev pub step_ordinal : ℕ → ℕ
step_ordinal day =
    julian_year_fraction_of (julian_count day) * 1_461 / 2 ^ 34 + (if is_julian_year day then 1 else 0)
