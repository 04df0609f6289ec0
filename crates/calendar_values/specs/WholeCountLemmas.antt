-- Whole counts of durations: of a number of units, their signs, their order, and the units next to one another.
use Rattle.std.proofs.Common.{◌≡◌, ℤ, pos, ◌+ℤ◌, ◌-ℤ◌, ◌*ℤ◌, ◌≤ℤ◌, int_rem, arith}
use Rattle.calendar_values.specs.Clock.{nanos_per_microsecond, nanos_per_millisecond, nanos_per_second, nanos_per_minute, nanos_per_hour, nanos_per_day}
use Rattle.calendar_values.specs.Clock.{nanos_per_week}
use Rattle.calendar_values.specs.Durations.{whole_seconds_of, whole_minutes_of, whole_hours_of, whole_days_of, whole_weeks_of}
use Rattle.calendar_values.specs.Durations.{whole_milliseconds_of, whole_microseconds_of}
use Rattle.calendar_values.specs.SignedArith.{signed_arith, one_part}

-- a duration of k units has the count k
pub whole_weeks_of-exact : (k : ℤ) → whole_weeks_of (k *ℤ pos nanos_per_week) ≡ k
unfolding whole_weeks_of
whole_weeks_of-exact k = omega (arith, signed_arith, one_part k)

pub whole_days_of-exact : (k : ℤ) → whole_days_of (k *ℤ pos nanos_per_day) ≡ k
unfolding whole_days_of
whole_days_of-exact k = omega (arith, signed_arith, one_part k)

pub whole_hours_of-exact : (k : ℤ) → whole_hours_of (k *ℤ pos nanos_per_hour) ≡ k
unfolding whole_hours_of
whole_hours_of-exact k = omega (arith, signed_arith, one_part k)

pub whole_minutes_of-exact : (k : ℤ) → whole_minutes_of (k *ℤ pos nanos_per_minute) ≡ k
unfolding whole_minutes_of
whole_minutes_of-exact k = omega (arith, signed_arith, one_part k)

pub whole_seconds_of-exact : (k : ℤ) → whole_seconds_of (k *ℤ pos nanos_per_second) ≡ k
unfolding whole_seconds_of
whole_seconds_of-exact k = omega (arith, signed_arith, one_part k)

pub whole_milliseconds_of-exact : (k : ℤ) → whole_milliseconds_of (k *ℤ pos nanos_per_millisecond) ≡ k
unfolding whole_milliseconds_of
whole_milliseconds_of-exact k = omega (arith, signed_arith, one_part k)

pub whole_microseconds_of-exact : (k : ℤ) → whole_microseconds_of (k *ℤ pos nanos_per_microsecond) ≡ k
unfolding whole_microseconds_of
whole_microseconds_of-exact k = omega (arith, signed_arith, one_part k)

-- a duration of s seconds has these counts of the units below a second
pub whole_milliseconds_of-of_seconds : (s : ℤ) → whole_milliseconds_of (s *ℤ pos nanos_per_second) ≡ s *ℤ pos 1_000
unfolding whole_milliseconds_of
whole_milliseconds_of-of_seconds s = omega (arith, signed_arith, one_part s)

-- a duration that is not below 0 has no count below 0
pub whole_weeks_of-not_negative : (d : ℤ) → pos 0 ≤ℤ d → pos 0 ≤ℤ whole_weeks_of d
unfolding whole_weeks_of
whole_weeks_of-not_negative d h = omega (arith, signed_arith, one_part d)

pub whole_days_of-not_negative : (d : ℤ) → pos 0 ≤ℤ d → pos 0 ≤ℤ whole_days_of d
unfolding whole_days_of
whole_days_of-not_negative d h = omega (arith, signed_arith, one_part d)

pub whole_hours_of-not_negative : (d : ℤ) → pos 0 ≤ℤ d → pos 0 ≤ℤ whole_hours_of d
unfolding whole_hours_of
whole_hours_of-not_negative d h = omega (arith, signed_arith, one_part d)

pub whole_minutes_of-not_negative : (d : ℤ) → pos 0 ≤ℤ d → pos 0 ≤ℤ whole_minutes_of d
unfolding whole_minutes_of
whole_minutes_of-not_negative d h = omega (arith, signed_arith, one_part d)

pub whole_seconds_of-not_negative : (d : ℤ) → pos 0 ≤ℤ d → pos 0 ≤ℤ whole_seconds_of d
unfolding whole_seconds_of
whole_seconds_of-not_negative d h = omega (arith, signed_arith, one_part d)

pub whole_milliseconds_of-not_negative : (d : ℤ) → pos 0 ≤ℤ d → pos 0 ≤ℤ whole_milliseconds_of d
unfolding whole_milliseconds_of
whole_milliseconds_of-not_negative d h = omega (arith, signed_arith, one_part d)

pub whole_microseconds_of-not_negative : (d : ℤ) → pos 0 ≤ℤ d → pos 0 ≤ℤ whole_microseconds_of d
unfolding whole_microseconds_of
whole_microseconds_of-not_negative d h = omega (arith, signed_arith, one_part d)

-- the time from an instant to one that is not earlier has no count below 0
pub whole_weeks_of-later : (a b : ℤ) → a ≤ℤ b → pos 0 ≤ℤ whole_weeks_of (b -ℤ a)
unfolding whole_weeks_of
whole_weeks_of-later a b h = omega (arith, signed_arith, one_part (b -ℤ a))

pub whole_days_of-later : (a b : ℤ) → a ≤ℤ b → pos 0 ≤ℤ whole_days_of (b -ℤ a)
unfolding whole_days_of
whole_days_of-later a b h = omega (arith, signed_arith, one_part (b -ℤ a))

pub whole_hours_of-later : (a b : ℤ) → a ≤ℤ b → pos 0 ≤ℤ whole_hours_of (b -ℤ a)
unfolding whole_hours_of
whole_hours_of-later a b h = omega (arith, signed_arith, one_part (b -ℤ a))

pub whole_minutes_of-later : (a b : ℤ) → a ≤ℤ b → pos 0 ≤ℤ whole_minutes_of (b -ℤ a)
unfolding whole_minutes_of
whole_minutes_of-later a b h = omega (arith, signed_arith, one_part (b -ℤ a))

pub whole_seconds_of-later : (a b : ℤ) → a ≤ℤ b → pos 0 ≤ℤ whole_seconds_of (b -ℤ a)
unfolding whole_seconds_of
whole_seconds_of-later a b h = omega (arith, signed_arith, one_part (b -ℤ a))

pub whole_milliseconds_of-later : (a b : ℤ) → a ≤ℤ b → pos 0 ≤ℤ whole_milliseconds_of (b -ℤ a)
unfolding whole_milliseconds_of
whole_milliseconds_of-later a b h = omega (arith, signed_arith, one_part (b -ℤ a))

pub whole_microseconds_of-later : (a b : ℤ) → a ≤ℤ b → pos 0 ≤ℤ whole_microseconds_of (b -ℤ a)
unfolding whole_microseconds_of
whole_microseconds_of-later a b h = omega (arith, signed_arith, one_part (b -ℤ a))

-- a longer duration has no smaller count
pub whole_weeks_of-order : (a b : ℤ) → a ≤ℤ b → whole_weeks_of a ≤ℤ whole_weeks_of b
unfolding whole_weeks_of
whole_weeks_of-order a b h = omega (arith, signed_arith, one_part a, one_part b)

pub whole_days_of-order : (a b : ℤ) → a ≤ℤ b → whole_days_of a ≤ℤ whole_days_of b
unfolding whole_days_of
whole_days_of-order a b h = omega (arith, signed_arith, one_part a, one_part b)

pub whole_hours_of-order : (a b : ℤ) → a ≤ℤ b → whole_hours_of a ≤ℤ whole_hours_of b
unfolding whole_hours_of
whole_hours_of-order a b h = omega (arith, signed_arith, one_part a, one_part b)

pub whole_minutes_of-order : (a b : ℤ) → a ≤ℤ b → whole_minutes_of a ≤ℤ whole_minutes_of b
unfolding whole_minutes_of
whole_minutes_of-order a b h = omega (arith, signed_arith, one_part a, one_part b)

pub whole_seconds_of-order : (a b : ℤ) → a ≤ℤ b → whole_seconds_of a ≤ℤ whole_seconds_of b
unfolding whole_seconds_of
whole_seconds_of-order a b h = omega (arith, signed_arith, one_part a, one_part b)

pub whole_milliseconds_of-order : (a b : ℤ) → a ≤ℤ b → whole_milliseconds_of a ≤ℤ whole_milliseconds_of b
unfolding whole_milliseconds_of
whole_milliseconds_of-order a b h = omega (arith, signed_arith, one_part a, one_part b)

pub whole_microseconds_of-order : (a b : ℤ) → a ≤ℤ b → whole_microseconds_of a ≤ℤ whole_microseconds_of b
unfolding whole_microseconds_of
whole_microseconds_of-order a b h = omega (arith, signed_arith, one_part a, one_part b)

-- the count of a unit by the count of the next larger unit and the rest
pub whole_days_of-weeks : (d : ℤ) → whole_days_of d ≡ (whole_weeks_of d *ℤ pos 7) +ℤ int_rem (whole_days_of d) (pos 7)
unfolding whole_weeks_of whole_days_of
whole_days_of-weeks d = omega (arith, signed_arith, one_part d)

pub whole_hours_of-days : (d : ℤ) → whole_hours_of d ≡ (whole_days_of d *ℤ pos 24) +ℤ int_rem (whole_hours_of d) (pos 24)
unfolding whole_days_of whole_hours_of
whole_hours_of-days d = omega (arith, signed_arith, one_part d)

pub whole_minutes_of-hours : (d : ℤ) → whole_minutes_of d ≡ (whole_hours_of d *ℤ pos 60) +ℤ int_rem (whole_minutes_of d) (pos 60)
unfolding whole_hours_of whole_minutes_of
whole_minutes_of-hours d = omega (arith, signed_arith, one_part d)

pub whole_seconds_of-minutes : (d : ℤ) → whole_seconds_of d ≡ (whole_minutes_of d *ℤ pos 60) +ℤ int_rem (whole_seconds_of d) (pos 60)
unfolding whole_minutes_of whole_seconds_of
whole_seconds_of-minutes d = omega (arith, signed_arith, one_part d)

pub whole_milliseconds_of-seconds : (d : ℤ) → whole_milliseconds_of d ≡ (whole_seconds_of d *ℤ pos 1_000) +ℤ int_rem (whole_milliseconds_of d) (pos 1_000)
unfolding whole_seconds_of whole_milliseconds_of
whole_milliseconds_of-seconds d = omega (arith, signed_arith, one_part d)

pub whole_microseconds_of-milliseconds : (d : ℤ)
    → whole_microseconds_of d ≡ (whole_milliseconds_of d *ℤ pos 1_000) +ℤ int_rem (whole_microseconds_of d) (pos 1_000)
unfolding whole_milliseconds_of whole_microseconds_of
whole_microseconds_of-milliseconds d = omega (arith, signed_arith, one_part d)

-- a caller who lists `wholes` counts the units of durations
pub ruleset wholes = (
  whole_weeks_of-exact,
  whole_days_of-exact,
  whole_hours_of-exact,
  whole_minutes_of-exact,
  whole_seconds_of-exact,
  whole_milliseconds_of-exact,
  whole_microseconds_of-exact,
  whole_milliseconds_of-of_seconds,
  whole_weeks_of-not_negative,
  whole_days_of-not_negative,
  whole_hours_of-not_negative,
  whole_minutes_of-not_negative,
  whole_seconds_of-not_negative,
  whole_milliseconds_of-not_negative,
  whole_microseconds_of-not_negative,
  whole_weeks_of-later,
  whole_days_of-later,
  whole_hours_of-later,
  whole_minutes_of-later,
  whole_seconds_of-later,
  whole_milliseconds_of-later,
  whole_microseconds_of-later,
  whole_weeks_of-order,
  whole_days_of-order,
  whole_hours_of-order,
  whole_minutes_of-order,
  whole_seconds_of-order,
  whole_milliseconds_of-order,
  whole_microseconds_of-order,
  whole_days_of-weeks,
  whole_hours_of-days,
  whole_minutes_of-hours,
  whole_seconds_of-minutes,
  whole_milliseconds_of-seconds,
  whole_microseconds_of-milliseconds,
)
