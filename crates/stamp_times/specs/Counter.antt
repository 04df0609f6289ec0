-- The replies to a run of calls: a counter of nanoseconds, read by counted days. It uses no type of instants.
use Rattle.std.specs.Prelude.{◌≡◌, ℕ, List, [], ◌∷◌, ℤ, ◌+ℤ◌, ◌-ℤ◌, Option, Some, None, Result, Ok, Err, ⊤}
use Rattle.calendar_values.specs.Calendar.{year_of, month_of, day_of_month_of, ordinal_of, julian_day_of}
use Rattle.calendar_values.specs.Clock.{hour_of, minute_of, second_of, millisecond_of, microsecond_of, nanosecond_of}
use Rattle.calendar_values.specs.Month.{month_number}
use Rattle.calendar_values.specs.Refusals.{Refusal}
use Rattle.calendar_values.specs.WallClock.{wall_day, wall_time, SomeInRange}
use Rattle.calendar_values.specs.Weeks.{iso_year_of, iso_week_of, sunday_week_of, monday_week_of, weekday_of}
use Rattle.offset_times.specs.Local.{shown_at}
use Rattle.plain_times.specs.Replacements.{with_date, with_time, wall_year_outcome, wall_month_outcome, wall_day_outcome, wall_ordinal_outcome}
use Rattle.plain_times.specs.Replacements.{wall_hour_outcome}
use Rattle.plain_times.specs.Replacements.{wall_minute_outcome, wall_second_outcome, wall_millisecond_outcome, wall_microsecond_outcome}
use Rattle.plain_times.specs.Replacements.{wall_nanosecond_outcome, ReplacesDate, ReplacesTime, ShowsYear, ShowsMonth, ShowsDay, ShowsOrdinal}
use Rattle.plain_times.specs.Replacements.{ShowsHour, ShowsMinute, ShowsSecond, ShowsMillisecond, ShowsMicrosecond, ShowsNanosecond}
use Rattle.plain_times.specs.Sums.{wall_clock_if_any, nearest_wall_clock, IsSaturatingSum, IsSaturatingDifference}
use Rattle.stamp_times.specs.Numbered.{month_numbered, weekday_numbered}
use Rattle.stamp_times.specs.declared.runs.calls.DateRead.{DateRead}
use Rattle.stamp_times.specs.declared.runs.calls.DateRead.TheVariants as date_read
use Rattle.stamp_times.specs.declared.runs.calls.DatePart.{DatePart}
use Rattle.stamp_times.specs.declared.runs.calls.DatePart.TheVariants as date_part
use Rattle.stamp_times.specs.declared.runs.calls.ClockRead.{ClockRead}
use Rattle.stamp_times.specs.declared.runs.calls.ClockRead.TheVariants as clock_read
use Rattle.stamp_times.specs.declared.runs.calls.ClockPart.{ClockPart}
use Rattle.stamp_times.specs.declared.runs.calls.ClockPart.TheVariants as clock_part
use Rattle.stamp_times.specs.declared.runs.calls.Shift.{Shift}
use Rattle.stamp_times.specs.declared.runs.calls.Shift.TheVariants.{CheckedAdd, CheckedSub, SaturatingAdd, SaturatingSub}
use Rattle.stamp_times.specs.declared.runs.calls.Replace.{Replace}
use Rattle.stamp_times.specs.declared.runs.calls.Replace.TheVariants as replacing
use Rattle.stamp_times.specs.declared.runs.calls.Call.{Call}
use Rattle.stamp_times.specs.declared.runs.calls.Call.TheVariants as call
use Rattle.stamp_times.specs.declared.runs.calls.Reply.{Reply}
use Rattle.stamp_times.specs.declared.runs.calls.Reply.TheVariants as replied

-- the part of the date that a read returns on a day
abbrev pub date_part_of : ℤ → DateRead → DatePart
date_part_of n date_read.Date = date_part.Date n
date_part_of n date_read.Year = date_part.Year (year_of n)
date_part_of n date_read.Month = date_part.Month (month_numbered (month_of n))
date_part_of n date_read.Day = date_part.Day (day_of_month_of n)
date_part_of n date_read.Ordinal = date_part.Ordinal (ordinal_of n)
date_part_of n date_read.IsoWeek = date_part.IsoWeek (iso_week_of n)
date_part_of n date_read.SundayWeek = date_part.SundayWeek (sunday_week_of n)
date_part_of n date_read.MondayWeek = date_part.MondayWeek (monday_week_of n)
date_part_of n date_read.CalendarDate =
    date_part.CalendarDate (year_of n, month_numbered (month_of n), day_of_month_of n)
date_part_of n date_read.OrdinalDate = date_part.OrdinalDate (year_of n, ordinal_of n)
date_part_of n date_read.IsoWeekDate =
    date_part.IsoWeekDate (iso_year_of n, iso_week_of n, weekday_numbered (weekday_of n))
date_part_of n date_read.Weekday = date_part.Weekday (weekday_numbered (weekday_of n))
date_part_of n date_read.JulianDay = date_part.JulianDay (julian_day_of n)

-- the part of the time of day that a read returns at a clock
abbrev pub clock_part_of : ℕ → ClockRead → ClockPart
clock_part_of c clock_read.Time = clock_part.Time c
clock_part_of c clock_read.Hms = clock_part.Hms (hour_of c, minute_of c, second_of c)
clock_part_of c clock_read.HmsMilli = clock_part.HmsMilli (hour_of c, minute_of c, second_of c, millisecond_of c)
clock_part_of c clock_read.HmsMicro = clock_part.HmsMicro (hour_of c, minute_of c, second_of c, microsecond_of c)
clock_part_of c clock_read.HmsNano = clock_part.HmsNano (hour_of c, minute_of c, second_of c, nanosecond_of c)
clock_part_of c clock_read.Hour = clock_part.Hour (hour_of c)
clock_part_of c clock_read.Minute = clock_part.Minute (minute_of c)
clock_part_of c clock_read.Second = clock_part.Second (second_of c)
clock_part_of c clock_read.Millisecond = clock_part.Millisecond (millisecond_of c)
clock_part_of c clock_read.Microsecond = clock_part.Microsecond (microsecond_of c)
clock_part_of c clock_read.Nanosecond = clock_part.Nanosecond (nanosecond_of c)

-- the instant after a sum or a difference, or None if it is out of range
abbrev pub instant_after_shift : ℤ → Shift → Option ℤ
instant_after_shift i (CheckedAdd d) = wall_clock_if_any (i +ℤ d)
instant_after_shift i (CheckedSub d) = wall_clock_if_any (i -ℤ d)
instant_after_shift i (SaturatingAdd d) = Some (nearest_wall_clock (i +ℤ d))
instant_after_shift i (SaturatingSub d) = Some (nearest_wall_clock (i -ℤ d))

-- a checked sum or difference is Some exactly if it is in range, and a saturating one always is
abbrev pub Shifts : ℤ → Shift → Option ℤ → Type 0
Shifts i (CheckedAdd d) sum = SomeInRange sum (i +ℤ d)
Shifts i (CheckedSub d) sum = SomeInRange sum (i -ℤ d)
Shifts i (SaturatingAdd d) sum = sum ≡ Some (nearest_wall_clock (i +ℤ d))
Shifts i (SaturatingSub d) sum = sum ≡ Some (nearest_wall_clock (i -ℤ d))

-- a saturating sum moves in the direction of the duration, and a saturating difference against it, no further than the duration
abbrev pub Saturates : ℤ → Shift → ℤ → Type 0
Saturates i (CheckedAdd d) j = ⊤
Saturates i (CheckedSub d) j = ⊤
Saturates i (SaturatingAdd d) j = IsSaturatingSum i d j
Saturates i (SaturatingSub d) j = IsSaturatingDifference i d j

-- the instant after a replacement, or its error
abbrev pub instant_after_replacement : ℤ → Replace → Result ℤ Refusal
instant_after_replacement i (replacing.Time c) = Ok (with_time i c)
instant_after_replacement i (replacing.Date n) = Ok (with_date i n)
instant_after_replacement i (replacing.Year y) = (wall_year_outcome i y).answer
instant_after_replacement i (replacing.Month m) = (wall_month_outcome i (month_number m)).answer
instant_after_replacement i (replacing.Day d) = (wall_day_outcome i d).answer
instant_after_replacement i (replacing.Ordinal ordinal) = (wall_ordinal_outcome i ordinal).answer
instant_after_replacement i (replacing.Hour h) = (wall_hour_outcome i h).answer
instant_after_replacement i (replacing.Minute m) = (wall_minute_outcome i m).answer
instant_after_replacement i (replacing.Second s) = (wall_second_outcome i s).answer
instant_after_replacement i (replacing.Millisecond milli) = (wall_millisecond_outcome i milli).answer
instant_after_replacement i (replacing.Microsecond micro) = (wall_microsecond_outcome i micro).answer
instant_after_replacement i (replacing.Nanosecond n) = (wall_nanosecond_outcome i n).answer

-- a replacement succeeds: always for the date or the time of day, and for a part if the part is valid
abbrev pub IsReplaceable : ℤ → Replace → Type 0
IsReplaceable i (replacing.Time c) = ⊤
IsReplaceable i (replacing.Date n) = ⊤
IsReplaceable i (replacing.Year y) = (wall_year_outcome i y).fits
IsReplaceable i (replacing.Month m) = (wall_month_outcome i (month_number m)).fits
IsReplaceable i (replacing.Day d) = (wall_day_outcome i d).fits
IsReplaceable i (replacing.Ordinal ordinal) = (wall_ordinal_outcome i ordinal).fits
IsReplaceable i (replacing.Hour h) = (wall_hour_outcome i h).fits
IsReplaceable i (replacing.Minute m) = (wall_minute_outcome i m).fits
IsReplaceable i (replacing.Second s) = (wall_second_outcome i s).fits
IsReplaceable i (replacing.Millisecond milli) = (wall_millisecond_outcome i milli).fits
IsReplaceable i (replacing.Microsecond micro) = (wall_microsecond_outcome i micro).fits
IsReplaceable i (replacing.Nanosecond n) = (wall_nanosecond_outcome i n).fits

-- the error of a replacement that fails: none for the date or the time of day, and for a part the error with its name
abbrev pub RefusesReplaced : ℤ → Replace → Refusal → Type 0
RefusesReplaced i (replacing.Time c) refusal = ⊥
RefusesReplaced i (replacing.Date n) refusal = ⊥
RefusesReplaced i (replacing.Year y) refusal = refusal ≡ (wall_year_outcome i y).refusal
RefusesReplaced i (replacing.Month m) refusal = refusal ≡ (wall_month_outcome i (month_number m)).refusal
RefusesReplaced i (replacing.Day d) refusal = refusal ≡ (wall_day_outcome i d).refusal
RefusesReplaced i (replacing.Ordinal ordinal) refusal = refusal ≡ (wall_ordinal_outcome i ordinal).refusal
RefusesReplaced i (replacing.Hour h) refusal = refusal ≡ (wall_hour_outcome i h).refusal
RefusesReplaced i (replacing.Minute m) refusal = refusal ≡ (wall_minute_outcome i m).refusal
RefusesReplaced i (replacing.Second s) refusal = refusal ≡ (wall_second_outcome i s).refusal
RefusesReplaced i (replacing.Millisecond milli) refusal = refusal ≡ (wall_millisecond_outcome i milli).refusal
RefusesReplaced i (replacing.Microsecond micro) refusal = refusal ≡ (wall_microsecond_outcome i micro).refusal
RefusesReplaced i (replacing.Nanosecond n) refusal = refusal ≡ (wall_nanosecond_outcome i n).refusal

-- after a replacement that succeeds, the new instant has the new part, and the rest of the old one
abbrev pub ShowsReplaced : ℤ → Replace → ℤ → Type 0
ShowsReplaced i (replacing.Time c) j = ReplacesTime i c j
ShowsReplaced i (replacing.Date n) j = ReplacesDate i n j
ShowsReplaced i (replacing.Year y) j = ShowsYear i y j
ShowsReplaced i (replacing.Month m) j = ShowsMonth i (month_number m) j
ShowsReplaced i (replacing.Day d) j = ShowsDay i d j
ShowsReplaced i (replacing.Ordinal ordinal) j = ShowsOrdinal i ordinal j
ShowsReplaced i (replacing.Hour h) j = ShowsHour i h j
ShowsReplaced i (replacing.Minute m) j = ShowsMinute i m j
ShowsReplaced i (replacing.Second s) j = ShowsSecond i s j
ShowsReplaced i (replacing.Millisecond milli) j = ShowsMillisecond i milli j
ShowsReplaced i (replacing.Microsecond micro) j = ShowsMicrosecond i micro j
ShowsReplaced i (replacing.Nanosecond n) j = ShowsNanosecond i n j

-- the reply with the counter, as a day and a time of day
abbrev pub reply_of_instant : ℤ → Reply
reply_of_instant i = replied.Now (wall_day i) (wall_time i)

-- the reply to a sum or a difference, and the counter after it
abbrev pub shift_reply : Option ℤ → Reply
shift_reply None = replied.Refused
shift_reply (Some j) = reply_of_instant j

abbrev pub shift_next : ℤ → Option ℤ → ℤ
shift_next i None = i
shift_next i (Some j) = j

-- the reply to a replacement, and the counter after it
abbrev pub replace_reply : Result ℤ Refusal → Reply
replace_reply (Ok j) = reply_of_instant j
replace_reply (Err refusal) = replied.RefusedPart refusal

abbrev pub replace_next : ℤ → Result ℤ Refusal → ℤ
replace_next i (Ok j) = j
replace_next i (Err refusal) = i

-- the reply to a conversion to an offset: the wall clock there, if it is in range
abbrev pub local_reply : ℤ → Option ℤ → Reply
local_reply o None = replied.Refused
local_reply o (Some w) = replied.Local (wall_day w) (wall_time w) o

-- the reply to a call
abbrev pub reply : ℤ → Call → Reply
reply i (call.ReadDate read) = replied.DatePart (date_part_of (wall_day i) read)
reply i (call.ReadClock read) = replied.ClockPart (clock_part_of (wall_time i) read)
reply i (call.Shift shift) = shift_reply (instant_after_shift i shift)
reply i (call.Replace replace) = replace_reply (instant_after_replacement i replace)
reply i (call.Local o) = local_reply o (wall_clock_if_any (shown_at i o))

-- the counter after a call: a read, a conversion to an offset and a call that fails change nothing
abbrev pub instant_after : ℤ → Call → ℤ
instant_after i (call.ReadDate read) = i
instant_after i (call.ReadClock read) = i
instant_after i (call.Shift shift) = shift_next i (instant_after_shift i shift)
instant_after i (call.Replace replace) = replace_next i (instant_after_replacement i replace)
instant_after i (call.Local o) = i

-- the replies to calls in their order
abbrev pub replies : ℤ → List Call → List Reply
replies i [] = []
replies i (c ∷ cs) = reply i c ∷ replies (instant_after i c) cs

-- the counter after them
abbrev pub last_instant : ℤ → List Call → ℤ
last_instant i [] = i
last_instant i (c ∷ cs) = last_instant (instant_after i c) cs
