-- Days as texts of RFC 3339, and texts as days.
use Rattle.std.specs.Prelude.{ℕ, ℤ, pos, List, Result, Ok, Err, if◌then◌else◌}
use Rattle.calendar_values.specs.Calendar.{year_of}
use Rattle.calendar_values.specs.Range.{is_outside}
use Rattle.rfc3339.specs.FullDates.{full_date_text, full_date_meaning}
use Rattle.muxandu_c.specs.Answers.{text_as_refused, and_then}
use Rattle.muxandu_c.specs.Values.{day_from_date, date_parts}
use Rattle.muxandu_c.specs.declared.refused.Refused.{Refused}
use Rattle.muxandu_c.specs.declared.refused.Refused.TheVariants as refused
use Rattle.muxandu_c.specs.declared.values.MuxanduDate.{MuxanduDate}

-- the text of a day, if there is one
abbrev pub full_date_of : ℤ → Result (List ℕ) Refused
full_date_of n = if is_outside (pos 0) (pos 9_999) (year_of n) then Err refused.NoText else Ok (full_date_text n)

-- the text of a date
abbrev pub date_to_rfc3339 : MuxanduDate → Result (List ℕ) Refused
date_to_rfc3339 v = and_then (day_from_date v) full_date_of

-- the date of the numbers of a text, or the error
abbrev pub date_spelled : ℕ → ℕ → ℕ → Result MuxanduDate Refused
date_spelled year month day = and_then (text_as_refused day (full_date_meaning year month day)) (λ n. Ok (date_parts n))
