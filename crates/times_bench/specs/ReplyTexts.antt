-- The texts of the replies of a run, and of the values of a chain.
use Rattle.std.specs.Prelude.{ℕ, ℤ, List, ◌++◌, codes, decimal}
use Rattle.std.specs.Fmt.{signed_decimal}
use Rattle.calendar_values.specs.Month.{month_name}
use Rattle.calendar_values.specs.Refusals.{Refusal}
use Rattle.calendar_values.specs.Texts.{date_text, time_text, offset_text}
use Rattle.calendar_values.specs.Weekday.{weekday_name}
use Rattle.calendar_values.specs.declared.month.Month.{Month}
use Rattle.calendar_values.specs.declared.weekday.Weekday.{Weekday}
use Rattle.offset_times.specs.Texts.{offset_date_time_text}
use Rattle.stamp_times.specs.Texts.{timestamp_text}
use Rattle.utc_times.specs.Texts.{utc_text}
use Rattle.stamp_times.specs.declared.runs.calls.DatePart.{DatePart}
use Rattle.stamp_times.specs.declared.runs.calls.DatePart.TheVariants as date_part
use Rattle.stamp_times.specs.declared.runs.calls.ClockPart.{ClockPart}
use Rattle.stamp_times.specs.declared.runs.calls.ClockPart.TheVariants as clock_part
use Rattle.stamp_times.specs.declared.runs.calls.Reply.{Reply}
use Rattle.stamp_times.specs.declared.runs.calls.Reply.TheVariants as replied
use Rattle.stamp_times.specs.declared.chains.steps.Held.{Held}
use Rattle.stamp_times.specs.declared.chains.steps.Held.TheVariants as held

-- `refused`, and the name of the part
abbrev pub refused_text : Refusal → List ℕ
refused_text refusal = codes "refused " ++ refusal.name

-- a year, a month and a day of the month
abbrev pub calendar_date_text : ℤ → Month → ℕ → List ℕ
calendar_date_text y m d = signed_decimal y ++ codes " " ++ month_name m ++ codes " " ++ decimal d

-- a year and a day of the year
abbrev pub ordinal_date_text : ℤ → ℕ → List ℕ
ordinal_date_text y ordinal = signed_decimal y ++ codes " " ++ decimal ordinal

-- a year, a week and a day of the week
abbrev pub iso_week_date_text : ℤ → ℕ → Weekday → List ℕ
iso_week_date_text y week weekday = signed_decimal y ++ codes " " ++ decimal week ++ codes " " ++ weekday_name weekday

-- a part of the date; several numbers and names have one space between
unfoldable pub date_part_text : DatePart → List ℕ
date_part_text (date_part.Date n) = date_text n
date_part_text (date_part.Year y) = signed_decimal y
date_part_text (date_part.Month m) = month_name m
date_part_text (date_part.Day d) = decimal d
date_part_text (date_part.Ordinal ordinal) = decimal ordinal
date_part_text (date_part.IsoWeek week) = decimal week
date_part_text (date_part.SundayWeek week) = decimal week
date_part_text (date_part.MondayWeek week) = decimal week
date_part_text (date_part.CalendarDate (y, m, d)) = calendar_date_text y m d
date_part_text (date_part.OrdinalDate (y, ordinal)) = ordinal_date_text y ordinal
date_part_text (date_part.IsoWeekDate (y, week, weekday)) = iso_week_date_text y week weekday
date_part_text (date_part.Weekday weekday) = weekday_name weekday
date_part_text (date_part.JulianDay julian_day) = signed_decimal julian_day

-- an hour, a minute and a second
abbrev pub hms_text : ℕ → ℕ → ℕ → List ℕ
hms_text h m s = decimal h ++ codes " " ++ decimal m ++ codes " " ++ decimal s

-- a part of the time of day
unfoldable pub clock_part_text : ClockPart → List ℕ
clock_part_text (clock_part.Time c) = time_text c
clock_part_text (clock_part.Hms (h, m, s)) = hms_text h m s
clock_part_text (clock_part.HmsMilli (h, m, s, milli)) = hms_text h m s ++ codes " " ++ decimal milli
clock_part_text (clock_part.HmsMicro (h, m, s, micro)) = hms_text h m s ++ codes " " ++ decimal micro
clock_part_text (clock_part.HmsNano (h, m, s, nano)) = hms_text h m s ++ codes " " ++ decimal nano
clock_part_text (clock_part.Hour h) = decimal h
clock_part_text (clock_part.Minute m) = decimal m
clock_part_text (clock_part.Second s) = decimal s
clock_part_text (clock_part.Millisecond milli) = decimal milli
clock_part_text (clock_part.Microsecond micro) = decimal micro
clock_part_text (clock_part.Nanosecond nano) = decimal nano

-- the text of the reply to a call
unfoldable pub reply_text : Reply → List ℕ
reply_text (replied.DatePart part) = date_part_text part
reply_text (replied.ClockPart part) = clock_part_text part
reply_text (replied.Now n c) = date_text n ++ codes " " ++ time_text c
reply_text replied.Refused = codes "refused"
reply_text (replied.RefusedPart refusal) = refused_text refusal
reply_text (replied.Local n c o) = date_text n ++ codes " " ++ time_text c ++ codes " " ++ offset_text o

-- the type of a value of a chain, and its text
unfoldable pub held_text : Held → List ℕ
held_text (held.Stamp i) = codes "stamp " ++ timestamp_text i
held_text (held.Utc i) = codes "utc " ++ utc_text i
held_text (held.Offset at) = codes "offset " ++ offset_date_time_text at
