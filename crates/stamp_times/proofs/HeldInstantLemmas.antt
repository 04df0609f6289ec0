-- What the second and the nanosecond of a timestamp say of its instant.
use Rattle.std.proofs.Common.{◌≡◌, ℕ, ◌/◌, ◌%◌, ◌<◌, arith, ℤ, pos, ◌+ℤ◌, ◌*ℤ◌, unsigned_abs}
use Rattle.std.specs.Int.{int_div_euclid, int_rem_euclid}
use Rattle.calendar_values.specs.Clock.{nanos_per_second, clock_of_parts, hour_of, minute_of, second_of}
use Rattle.calendar_values.specs.Range.{IsDay}
use Rattle.calendar_values.specs.SignedArith.{signed_arith, signed_casts}
use Rattle.calendar_values.specs.WallClock.{unix_seconds_of, wall_day, wall_time}
use Rattle.calendar_values.specs.WallClockLemmas.{IsDay-wall_day}
use Rattle.calendar_values.specs.Weeks.{weekday_of}
use Rattle.plain_times.specs.Replacements.{with_time}
use Rattle.utc_times.specs.UnixTime.{instant_of_second}
use Rattle.stamp_times.specs.Instants.{instant_of_parts, instant_of_milliseconds, instant_of_microseconds, unix_nanosecond_of, unix_milliseconds_of}
use Rattle.stamp_times.specs.Instants.{unix_microseconds_of}

pub unix_seconds_of-is : (i s : ℤ) (n : ℕ) → n < nanos_per_second → instant_of_parts s n ≡ i → unix_seconds_of i ≡ s
unix_seconds_of-is i s n p e = omega (arith, signed_arith)

pub unix_nanosecond_of-is : (i s : ℤ) (n : ℕ) → n < nanos_per_second → instant_of_parts s n ≡ i → unix_nanosecond_of i ≡ n
unfolding wall_time
unix_nanosecond_of-is i s n p e = omega (arith, signed_arith)

pub unix_milliseconds_of-is : (i s : ℤ) (n : ℕ) → n < nanos_per_second → instant_of_parts s n ≡ i →
    unix_milliseconds_of i ≡ s *ℤ pos 1_000 +ℤ pos (n / 1_000_000)
unix_milliseconds_of-is i s n p e = omega (arith, signed_arith)

pub unix_microseconds_of-is : (i s : ℤ) (n : ℕ) → n < nanos_per_second → instant_of_parts s n ≡ i →
    unix_microseconds_of i ≡ s *ℤ pos 1_000_000 +ℤ pos (n / 1_000)
unix_microseconds_of-is i s n p e = omega (arith, signed_arith)

-- the instant of a count has this count
pub unix_seconds_of-instant_of_second : (count : ℤ) → unix_seconds_of (instant_of_second count) ≡ count
unix_seconds_of-instant_of_second count = omega (arith, signed_arith)

pub unix_milliseconds_of-instant_of_milliseconds : (count : ℤ) → unix_milliseconds_of (instant_of_milliseconds count) ≡ count
unix_milliseconds_of-instant_of_milliseconds count = omega (arith, signed_arith)

pub unix_microseconds_of-instant_of_microseconds : (count : ℤ) → unix_microseconds_of (instant_of_microseconds count) ≡ count
unix_microseconds_of-instant_of_microseconds count = omega (arith, signed_arith)

-- the day of an instant and the second of the day, by its Unix second
pub wall_day-second : (i : ℤ) → int_div_euclid (unix_seconds_of i) (pos 86_400) ≡ wall_day i
unfolding wall_day
wall_day-second i = omega (arith, signed_arith)

pub wall_time-second : (i : ℤ) → int_rem_euclid (unix_seconds_of i) (pos 86_400) ≡ pos (wall_time i / nanos_per_second)
unfolding wall_time
wall_time-second i = omega (arith, signed_arith)

-- the days of the week, of a day of the range counted from a Monday
pub weekday_of-Monday : (n : ℤ) → IsDay n → weekday_of n ≡ unsigned_abs (n +ℤ pos 365_961_669) % 7
unfolding weekday_of
weekday_of-Monday n h = omega (arith, signed_arith)

-- another nanosecond of the same second
pub with_time-nanosecond : (i s : ℤ) (n m : ℕ) → n < nanos_per_second → instant_of_parts s n ≡ i →
    with_time i (clock_of_parts (hour_of (wall_time i)) (minute_of (wall_time i)) (second_of (wall_time i)) m) ≡ instant_of_parts s m
unfolding with_time wall_day wall_time
with_time-nanosecond i s n m p e = omega (arith, signed_arith)

pub ruleset unix_parts = (unix_seconds_of-is, unix_nanosecond_of-is)

pub ruleset unix_counts = (signed_casts, unix_milliseconds_of-is, unix_microseconds_of-is)

pub ruleset days_of_seconds = (signed_casts, wall_day-second, wall_time-second, IsDay-wall_day)

pub ruleset weekdays_of_seconds = (signed_casts, weekday_of-Monday)

pub ruleset replaced_nanoseconds = (signed_casts, with_time-nanosecond)
