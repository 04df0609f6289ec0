-- The date-time that parts name: their date, their time of day and their offset. A second of 60 can be a leap second.
use Rattle.std.specs.Prelude.{ℕ, ◌==◌, ◌&&◌, Bool, true, false, not, if◌then◌else◌, ℤ, Option, Some, None, Result, Ok, Err}
use Rattle.calendar_values.specs.Range.{is_outside}
use Rattle.calendar_values.specs.WallClock.{wall_clock, wall_day, wall_time, first_wall_clock, last_wall_clock, IsInstant}
use Rattle.offset_times.specs.Local.{Local, instant_of, wall_at}
use Rattle.rfc3339.specs.LeapSeconds.{IsLastOfMonth, is_last_of_month}
use Rattle.format_descriptions.specs.ClockValues.{HasTimeParts, time_of_parts}
use Rattle.format_descriptions.specs.OffsetValues.{HasOffsetParts, offset_of_parts}
use Rattle.format_descriptions.specs.Values.{HasDateParts, date_of_parts}
use Rattle.format_descriptions.specs.declared.parts.Parts.{Parts}
use Rattle.format_descriptions.specs.declared.value_refusal.Field.TheVariants.{Second}
use Rattle.format_descriptions.specs.declared.value_refusal.ValueRefusal.{ValueRefusal}
use Rattle.format_descriptions.specs.declared.value_refusal.ValueRefusal.TheVariants.{Wrong}

-- each part of a date and of a time of day that is known is that of this wall clock
pub record HasPlainParts (p : Parts) (wall : ℤ) : Type 0 where
  pub date : HasDateParts p (wall_day wall)
  pub time : HasTimeParts p (wall_time wall)

-- each part of a date, of a time of day and of an offset that is known is that of this date-time
pub record HasLocalParts (p : Parts) (at : Local) : Type 0 where
  pub wall : HasPlainParts p at.wall
  pub offset : HasOffsetParts p at.offset

-- the wall clock of a date and a time of day, or the first error
abbrev pub plain_of : Result ℤ ValueRefusal → Result ℕ ValueRefusal → Result ℤ ValueRefusal
plain_of (Err refusal) time = Err refusal
plain_of (Ok day) (Err refusal) = Err refusal
plain_of (Ok day) (Ok clock) = Ok (wall_clock day clock)

-- the wall clock that the parts name, or the error
unfoldable pub plain_of_parts : Parts → Result ℤ ValueRefusal
plain_of_parts p = plain_of (date_of_parts p) (time_of_parts p)

-- the date-time of a wall clock and an offset, or the first error
abbrev pub local_of : Result ℤ ValueRefusal → Result ℤ ValueRefusal → Result Local ValueRefusal
local_of (Err refusal) offset = Err refusal
local_of (Ok wall) (Err refusal) = Err refusal
local_of (Ok wall) (Ok o) = Ok (wall_at wall o)

-- the date-time that the parts name, or the error
unfoldable pub local_of_parts : Parts → Result Local ValueRefusal
local_of_parts p = local_of (plain_of_parts p) (offset_of_parts p)

-- the second is 60
abbrev pub is_sixty : Option ℕ → Bool
is_sixty None = false
is_sixty (Some second) = second == 60

-- the parts with the last nanosecond of the minute in place of a second of 60 and its fraction
abbrev pub with_last_nanosecond : Bool → Parts → Parts
with_last_nanosecond false p = p
with_last_nanosecond true p = record p { second = Some 59; nanosecond = Some 999_999_999 }

-- the parts that a leap second counts as
abbrev pub leap_parts : Parts → Parts
leap_parts p = with_last_nanosecond (is_sixty p.second) p

-- an instant of the range that is the last nanosecond of a month in UTC
abbrev pub IsLeapStandIn : ℤ → Type 0
IsLeapStandIn i = IsInstant i × IsLastOfMonth i

-- the same as a test
abbrev pub is_leap_stand_in : ℤ → Bool
is_leap_stand_in i = not (is_outside first_wall_clock last_wall_clock i) && is_last_of_month i

-- a date-time with the mark of a leap second, or an error where no month ends with that second
abbrev pub leap_outcome : Bool → Result Local ValueRefusal → Result (Local × Bool) ValueRefusal
leap_outcome is_leap (Err refusal) = Err refusal
leap_outcome is_leap (Ok at) = if is_leap && not (is_leap_stand_in (instant_of at)) then Err (Wrong Second) else Ok (at, is_leap)

-- the date-time and the mark that the parts name where the second may be 60, or the error
unfoldable pub leap_of_parts : Parts → Result (Local × Bool) ValueRefusal
leap_of_parts p = leap_outcome (is_sixty p.second) (local_of_parts (leap_parts p))
