-- The outcome of a second and a nanosecond of it: their instant, or the error of one of them.
use Rattle.std.specs.Prelude.{ℕ, ◌<◌, ◌||◌, nat_lt, if◌then◌else◌, ℤ, codes, Result, Ok, Err}
use Rattle.calendar_values.specs.Clock.{nanos_per_second}
use Rattle.calendar_values.specs.Outcomes.{Outcome}
use Rattle.calendar_values.specs.Range.{is_outside}
use Rattle.calendar_values.specs.Refusals.{Refusal, outright_refusal}
use Rattle.calendar_values.specs.WallClock.{first_wall_clock, last_wall_clock, IsInstant}
use Rattle.utc_times.specs.UnixTime.{instant_of_second}
use Rattle.stamp_times.specs.Instants.{instant_of_parts}

-- the error of a second that is out of range, or else of a nanosecond of it
abbrev pub parts_refusal : ℤ → Refusal
parts_refusal s =
    if is_outside first_wall_clock last_wall_clock (instant_of_second s) then outright_refusal (codes "seconds")
    else outright_refusal (codes "nanoseconds")

-- the instant of a second and a nanosecond of it, or the error of one of them
unfoldable pub timestamp_of_parts : ℤ → ℕ → Result ℤ Refusal
timestamp_of_parts s n =
    if is_outside first_wall_clock last_wall_clock (instant_of_second s) || nat_lt 999_999_999 n then Err (parts_refusal s)
    else Ok (instant_of_parts s n)

-- the outcome of a second and a nanosecond of it
abbrev pub timestamp_outcome : ℤ → ℕ → Outcome ℤ
timestamp_outcome s n = record {
  fits = IsInstant (instant_of_second s) × (n < nanos_per_second);
  value = instant_of_parts s n;
  refusal = parts_refusal s;
  answer = timestamp_of_parts s n;
}
