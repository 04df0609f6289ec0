-- The texts of dates, times of day, offsets and errors.
use Rattle.std.specs.Prelude.{ℕ, ◌/◌, ◌%◌, List, [], ◌++◌, codes, decimal, if◌then◌else◌, nat_lt, int_lt, ℤ, pos, unsigned_abs}
use Rattle.calendar_values.specs.Calendar.{year_of, month_of, day_of_month_of}
use Rattle.calendar_values.specs.Clock.{hour_of, minute_of, second_of, nanosecond_of}
use Rattle.calendar_values.specs.Refusals.{Refusal}
use Rattle.calendar_values.specs.Digits.{last_digits, fraction_digits}

-- `-` before a negative year, `+` before one above 9999
abbrev pub year_sign : ℤ → List ℕ
year_sign y = if int_lt y (pos 0) then codes "-" else (if int_lt (pos 9999) y then codes "+" else [])

-- a year that is not negative, with at least four digits
unfoldable pub year_digits : ℕ → List ℕ
year_digits n = if nat_lt n 10_000 then last_digits 4 n else decimal n

-- the year with its sign
abbrev pub year_text : ℤ → List ℕ
year_text y = year_sign y ++ year_digits (unsigned_abs y)

-- the year, `-`, two digits of the month, `-`, two digits of the day
unfoldable pub date_text : ℤ → List ℕ
date_text n =
    year_text (year_of n) ++ codes "-" ++ last_digits 2 (month_of n) ++ codes "-" ++ last_digits 2 (day_of_month_of n)

-- the hour with no zero in front, `:`, two digits of the minute, `:`, two digits of the second, `.`, the fraction
unfoldable pub time_text : ℕ → List ℕ
time_text c =
    decimal (hour_of c) ++ codes ":" ++ last_digits 2 (minute_of c) ++ codes ":" ++ last_digits 2 (second_of c) ++ codes "." ++
    fraction_digits 9 (nanosecond_of c)

-- `-` before a negative offset, else `+`, then two digits each of the hours, the minutes and the seconds with `:` between
unfoldable pub offset_text : ℤ → List ℕ
offset_text o =
    let n = unsigned_abs o in
    (if int_lt o (pos 0) then codes "-" else codes "+") ++ last_digits 2 (n / 3_600) ++ codes ":" ++ last_digits 2 (n / 60 % 60) ++ codes ":" ++
    last_digits 2 (n % 60)

-- the text of an error: the name of the part, and that it is out of range, by itself or with the other parts
unfoldable pub refusal_text : Refusal → List ℕ
refusal_text refusal =
    refusal.name ++ codes " is out of range" ++ (if refusal.conditional then codes " given the other parts" else [])
