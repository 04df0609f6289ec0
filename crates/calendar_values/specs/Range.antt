-- The range of the library: the years -999999 to 999999.
use Rattle.std.specs.Prelude.{◌||◌, ℤ, pos, neg_ℤ, ◌≤ℤ◌, int_lt, Bool, Option, SomeIff}

-- the first year and the last
abbrev pub first_year : ℤ
first_year = neg_ℤ (pos 999_999)

abbrev pub last_year : ℤ
last_year = pos 999_999

-- the day number of the first day, 1 January of the first year
abbrev pub first_day : ℤ
first_day = neg_ℤ (pos 365_961_662)

-- the day number of the last day, 31 December of the last year
abbrev pub last_day : ℤ
last_day = pos 364_522_971

-- a year of the range
abbrev pub IsYear : ℤ → Type 0
IsYear y = (first_year ≤ℤ y) × (y ≤ℤ last_year)

-- a day of the range
abbrev pub IsDay : ℤ → Type 0
IsDay n = (first_day ≤ℤ n) × (n ≤ℤ last_day)

-- the result is Some n exactly if n is a day of the range, and else None
abbrev pub SomeDay : Option ℤ → ℤ → Type 0
SomeDay result n = SomeIff result (IsDay n) n

-- the number is before the first or after the last
abbrev pub is_outside : ℤ → ℤ → ℤ → Bool
is_outside first last n = int_lt n first || int_lt last n
