-- Dates that are a number of days or months later.
use Rattle.std.specs.Prelude.{ℕ, ◌+◌, ℤ, pos, ◌+ℤ◌, ◌-ℤ◌, ◌*ℤ◌, unsigned_abs, min, Result, Ok, Err, if◌then◌else◌}
use Rattle.std.specs.Int.{int_div_euclid, int_rem_euclid}
use Rattle.calendar_values.specs.Range.{is_outside, first_year, last_year}
use Rattle.muxandu_c.specs.Answers.{and_then}
use Rattle.muxandu_c.specs.Values.{day_if_any, day_from_date, date_parts, length_of_month}
use Rattle.muxandu_c.specs.declared.refused.Refused.{Refused}
use Rattle.muxandu_c.specs.declared.refused.Refused.TheVariants as refused
use Rattle.muxandu_c.specs.declared.values.MuxanduDate.{MuxanduDate}

-- the date that is a number of days later
abbrev pub date_add_days : MuxanduDate → ℤ → Result MuxanduDate Refused
date_add_days v days = and_then (day_from_date v) (λ n. and_then (day_if_any (n +ℤ days)) (λ m. Ok (date_parts m)))

-- the months from January of the year 0 to a month of a year
abbrev pub month_index : ℤ → ℕ → ℤ
month_index y m = y *ℤ pos 12 +ℤ pos m -ℤ pos 1

-- the year of a month, and its number, by the number of months from January of the year 0 to it
abbrev pub year_of_index : ℤ → ℤ
year_of_index index = int_div_euclid index (pos 12)

abbrev pub month_of_index : ℤ → ℕ
month_of_index index = unsigned_abs (int_rem_euclid index (pos 12)) + 1

-- a year, if the range has it
abbrev pub year_if_any : ℤ → Result ℤ Refused
year_if_any y = if is_outside first_year last_year y then Err refused.Result else Ok y

-- the day of a month, or the month's last day where it is shorter
abbrev pub day_or_last : ℤ → ℕ → ℕ → Result MuxanduDate Refused
day_or_last y m d = and_then (length_of_month y m) (λ length. Ok (record { year = y; month = m; day = min d length }))

-- the same of the month after a number of months from January of the year 0, if the range has its year
abbrev pub in_month : ℤ → ℕ → Result MuxanduDate Refused
in_month index d = and_then (year_if_any (year_of_index index)) (λ y. day_or_last y (month_of_index index) d)

-- the same day of the month, a number of months later
abbrev pub months_later : MuxanduDate → ℤ → Result MuxanduDate Refused
months_later v months = in_month (month_index v.year v.month +ℤ months) v.day

-- the same, of parts that make a date
abbrev pub date_add_months : MuxanduDate → ℤ → Result MuxanduDate Refused
date_add_months v months = and_then (day_from_date v) (λ n. months_later v months)
