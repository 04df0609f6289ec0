-- The time of day that parts name: each part that is known is that of it, and the finer parts that are not known are 0.
use Rattle.std.specs.Prelude.{◌≡◌, ℕ, ◌+◌, ◌%◌, ◌==◌, ◌||◌, ◌&&◌, not, Bool, if◌then◌else◌, nat_lt, IfSome, Option, Some, None, Result, Ok, Err, is_some}
use Rattle.calendar_values.specs.Clock.{clock_of_parts, hour_of, minute_of, second_of, nanosecond_of}
use Rattle.format_descriptions.specs.PartTests.{fits, fits_choice}
use Rattle.format_descriptions.specs.Written.{hour_12}
use Rattle.format_descriptions.specs.declared.parts.Parts.{Parts}
use Rattle.format_descriptions.specs.declared.value_refusal.Field.TheVariants.{Hour, Hour12, Period, Minute, Second, Subsecond}
use Rattle.format_descriptions.specs.declared.value_refusal.ValueRefusal.{ValueRefusal}
use Rattle.format_descriptions.specs.declared.value_refusal.ValueRefusal.TheVariants.{Missing, Wrong}

-- a number that is 0 where it is not known
abbrev pub or_zero : Option ℕ → ℕ
or_zero None = 0
or_zero (Some n) = n

-- each part of a time of day that is known is that of this one
pub record HasTimeParts (p : Parts) (clock : ℕ) : Type 0 where
  pub hour : IfSome p.hour (λ known. known ≡ hour_of clock)
  pub hour_12 : IfSome p.hour_12 (λ known. known ≡ hour_12 (hour_of clock))
  pub is_afternoon : IfSome p.is_afternoon (λ known. known ≡ not (nat_lt (hour_of clock) 12))
  pub minute : or_zero p.minute ≡ minute_of clock
  pub second : or_zero p.second ≡ second_of clock
  pub nanosecond : or_zero p.nanosecond ≡ nanosecond_of clock

-- the parts are an hour of the day, or one of a clock of 12 hours and the half of the day
abbrev pub tells_time : Parts → Bool
tells_time p = is_some p.hour || (is_some p.hour_12 && is_some p.is_afternoon)

-- the time of day of an hour, or the first part that is out of range or not that of the hour
unfoldable pub clock_at : Parts → ℕ → Result ℕ ValueRefusal
clock_at p h =
    if nat_lt 23 h then Err (Wrong Hour)
    else (if nat_lt 59 (or_zero p.minute) then Err (Wrong Minute)
    else (if nat_lt 59 (or_zero p.second) then Err (Wrong Second)
    else (if nat_lt 999_999_999 (or_zero p.nanosecond) then Err (Wrong Subsecond)
    else (if fits p.hour_12 (hour_12 h)
    then (if fits_choice p.is_afternoon (not (nat_lt h 12))
    then Ok (clock_of_parts h (or_zero p.minute) (or_zero p.second) (or_zero p.nanosecond))
    else Err (Wrong Period))
    else Err (Wrong Hour12)))))

-- the time of day of an hour of a clock of 12 hours
unfoldable pub clock_of_half : Parts → ℕ → Bool → Result ℕ ValueRefusal
clock_of_half p h is_afternoon =
    if h == 0 || nat_lt 12 h then Err (Wrong Hour12) else clock_at p (if is_afternoon then h % 12 + 12 else h % 12)

-- the same, if the hour and the half are known
abbrev pub clock_by_half : Parts → Option ℕ → Option Bool → Result ℕ ValueRefusal
clock_by_half p None half = Err (Missing Hour)
clock_by_half p (Some h) None = Err (Missing Period)
clock_by_half p (Some h) (Some is_afternoon) = clock_of_half p h is_afternoon

-- the time of day by the hour of the day, or else by that of a clock of 12 hours
abbrev pub clock_by : Parts → Option ℕ → Result ℕ ValueRefusal
clock_by p None = clock_by_half p p.hour_12 p.is_afternoon
clock_by p (Some h) = clock_at p h

-- the time of day that the parts name, or the error
unfoldable pub time_of_parts : Parts → Result ℕ ValueRefusal
time_of_parts p = clock_by p p.hour
