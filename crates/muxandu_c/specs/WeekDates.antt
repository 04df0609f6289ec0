-- ISO week dates and their days.
use Rattle.std.specs.Prelude.{ℕ, ℤ, Result, Ok, Err, if◌then◌else◌, nat_lt}
use Rattle.calendar_values.specs.Constructors.{iso_week_date}
use Rattle.calendar_values.specs.Refusals.{iso_week_date_refusal}
use Rattle.calendar_values.specs.Weeks.{iso_year_of, iso_week_of, weekday_of}
use Rattle.muxandu_c.specs.Answers.{and_then, as_refused, refused_part}
use Rattle.muxandu_c.specs.Values.{day_value}
use Rattle.muxandu_c.specs.declared.refused.Refused.{Refused}
use Rattle.muxandu_c.specs.declared.refused.Refused.TheVariants as refused
use Rattle.muxandu_c.specs.declared.values.MuxanduWeekDate.{MuxanduWeekDate}

-- the ISO year, the ISO week and the day of the week of a day
abbrev pub week_date_from_day : ℤ → Result MuxanduWeekDate Refused
week_date_from_day n =
    and_then (day_value n) (λ day. Ok (record { year = iso_year_of day; week = iso_week_of day; weekday = weekday_of day }))

-- the error of a week date whose day of the week is above 6
-- an ISO year or an ISO week that is invalid in every week date is the error, and else the day of the week
abbrev pub refused_with_weekday : ℤ → ℕ → Refused
refused_with_weekday year week =
    let refusal = iso_week_date_refusal year week in
    if refusal.conditional then refused.Weekday else refused_part refusal

-- the day of an ISO week date
abbrev pub day_from_week_date : MuxanduWeekDate → Result ℤ Refused
day_from_week_date v =
    if nat_lt 6 v.weekday then Err (refused_with_weekday v.year v.week)
    else as_refused (iso_week_date v.year v.week v.weekday)
