-- Counts of an instant that is truncated: not above those of the instant, and less than a unit below.
use Rattle.std.proofs.Common.{◌≡◌, ℤ, pos, ◌+ℤ◌, ◌≤ℤ◌, ◌<ℤ◌, arith}
use Rattle.std.specs.Int.{int_div_euclid}
use Rattle.calendar_values.specs.Clock.{nanos_per_day, nanos_per_hour, nanos_per_minute, nanos_per_second, nanos_per_millisecond, nanos_per_microsecond}
use Rattle.calendar_values.specs.SignedArith.{signed_arith}
use Rattle.plain_times.specs.Truncations.{wall_multiple_below}

-- the count of an earlier instant is no greater
pub int_div_euclid-seconds : (a b : ℤ) → a ≤ℤ b → int_div_euclid a (pos nanos_per_second) ≤ℤ int_div_euclid b (pos nanos_per_second)
int_div_euclid-seconds a b h = omega (arith, signed_arith)

pub int_div_euclid-milliseconds : (a b : ℤ) → a ≤ℤ b → int_div_euclid a (pos nanos_per_millisecond) ≤ℤ int_div_euclid b (pos nanos_per_millisecond)
int_div_euclid-milliseconds a b h = omega (arith, signed_arith)

pub int_div_euclid-microseconds : (a b : ℤ) → a ≤ℤ b → int_div_euclid a (pos nanos_per_microsecond) ≤ℤ int_div_euclid b (pos nanos_per_microsecond)
int_div_euclid-microseconds a b h = omega (arith, signed_arith)

-- the count of an instant is less than a unit above the count of its truncation to that unit
pub day_below-seconds : (w t : ℤ) → t ≡ wall_multiple_below nanos_per_day w
    → int_div_euclid w (pos nanos_per_second) <ℤ (int_div_euclid t (pos nanos_per_second) +ℤ pos 86_400)
unfolding wall_multiple_below
day_below-seconds w t e = omega (arith, signed_arith)

pub day_below-milliseconds : (w t : ℤ) → t ≡ wall_multiple_below nanos_per_day w
    → int_div_euclid w (pos nanos_per_millisecond) <ℤ (int_div_euclid t (pos nanos_per_millisecond) +ℤ pos 86_400_000)
unfolding wall_multiple_below
day_below-milliseconds w t e = omega (arith, signed_arith)

pub day_below-microseconds : (w t : ℤ) → t ≡ wall_multiple_below nanos_per_day w
    → int_div_euclid w (pos nanos_per_microsecond) <ℤ (int_div_euclid t (pos nanos_per_microsecond) +ℤ pos 86_400_000_000)
unfolding wall_multiple_below
day_below-microseconds w t e = omega (arith, signed_arith)

pub hour_below-seconds : (w t : ℤ) → t ≡ wall_multiple_below nanos_per_hour w
    → int_div_euclid w (pos nanos_per_second) <ℤ (int_div_euclid t (pos nanos_per_second) +ℤ pos 3_600)
unfolding wall_multiple_below
hour_below-seconds w t e = omega (arith, signed_arith)

pub hour_below-milliseconds : (w t : ℤ) → t ≡ wall_multiple_below nanos_per_hour w
    → int_div_euclid w (pos nanos_per_millisecond) <ℤ (int_div_euclid t (pos nanos_per_millisecond) +ℤ pos 3_600_000)
unfolding wall_multiple_below
hour_below-milliseconds w t e = omega (arith, signed_arith)

pub hour_below-microseconds : (w t : ℤ) → t ≡ wall_multiple_below nanos_per_hour w
    → int_div_euclid w (pos nanos_per_microsecond) <ℤ (int_div_euclid t (pos nanos_per_microsecond) +ℤ pos 3_600_000_000)
unfolding wall_multiple_below
hour_below-microseconds w t e = omega (arith, signed_arith)

pub minute_below-seconds : (w t : ℤ) → t ≡ wall_multiple_below nanos_per_minute w
    → int_div_euclid w (pos nanos_per_second) <ℤ (int_div_euclid t (pos nanos_per_second) +ℤ pos 60)
unfolding wall_multiple_below
minute_below-seconds w t e = omega (arith, signed_arith)

pub minute_below-milliseconds : (w t : ℤ) → t ≡ wall_multiple_below nanos_per_minute w
    → int_div_euclid w (pos nanos_per_millisecond) <ℤ (int_div_euclid t (pos nanos_per_millisecond) +ℤ pos 60_000)
unfolding wall_multiple_below
minute_below-milliseconds w t e = omega (arith, signed_arith)

pub minute_below-microseconds : (w t : ℤ) → t ≡ wall_multiple_below nanos_per_minute w
    → int_div_euclid w (pos nanos_per_microsecond) <ℤ (int_div_euclid t (pos nanos_per_microsecond) +ℤ pos 60_000_000)
unfolding wall_multiple_below
minute_below-microseconds w t e = omega (arith, signed_arith)

pub second_below-milliseconds : (w t : ℤ) → t ≡ wall_multiple_below nanos_per_second w
    → int_div_euclid w (pos nanos_per_millisecond) <ℤ (int_div_euclid t (pos nanos_per_millisecond) +ℤ pos 1_000)
unfolding wall_multiple_below
second_below-milliseconds w t e = omega (arith, signed_arith)

pub second_below-microseconds : (w t : ℤ) → t ≡ wall_multiple_below nanos_per_second w
    → int_div_euclid w (pos nanos_per_microsecond) <ℤ (int_div_euclid t (pos nanos_per_microsecond) +ℤ pos 1_000_000)
unfolding wall_multiple_below
second_below-microseconds w t e = omega (arith, signed_arith)

-- the rule set for callers that count a truncated instant
pub ruleset truncated_counts = (
  int_div_euclid-seconds,
  int_div_euclid-milliseconds,
  int_div_euclid-microseconds,
  day_below-seconds,
  day_below-milliseconds,
  day_below-microseconds,
  hour_below-seconds,
  hour_below-milliseconds,
  hour_below-microseconds,
  minute_below-seconds,
  minute_below-milliseconds,
  minute_below-microseconds,
  second_below-milliseconds,
  second_below-microseconds,
)
