-- A truncation to the nanosecond takes nothing away, and one to a second or more is one of the second.
use Rattle.std.proofs.Common.{◌≡◌, ◌∙◌, refl, ap, arith, ℕ, ◌-◌, ◌%◌, ◌<◌, ℤ, ◌-ℤ◌, ◌*ℤ◌, pos}
use Rattle.std.specs.Int.{int_div_euclid, int_rem_euclid}
use Rattle.calendar_values.specs.Clock.{nanos_per_day, nanos_per_hour, nanos_per_minute, nanos_per_second, nanos_per_millisecond, nanos_per_microsecond}
use Rattle.calendar_values.specs.SignedArith.{signed_arith}
use Rattle.calendar_values.specs.WallClock.{unix_seconds_of}
use Rattle.utc_times.specs.UnixTime.{instant_of_second}
use Rattle.plain_times.specs.Truncations.{wall_multiple_below}
use Rattle.offset_times.specs.Local.{Local, local_multiple_below, wall_at}
use Rattle.stamp_times.specs.Instants.{instant_of_parts, unix_nanosecond_of}
use Rattle.stamp_times.specs.TimestampLemmas.{instant_of_parts-of, unix_seconds_of-parts, unix_nanosecond_of-parts}
use Rattle.muxandu_c.specs.Values.{timestamp_parts}
use Rattle.muxandu_c.specs.declared.values.MuxanduTimestamp.{MuxanduTimestamp}

pub wall_multiple_below-one : (w : ℤ) → w ≡ wall_multiple_below 1 w
unfolding wall_multiple_below
wall_multiple_below-one w = omega (arith, signed_arith)

pub local_multiple_below-one : (at : Local) → at ≡ local_multiple_below 1 at
local_multiple_below-one at = ap (λ (w : ℤ). wall_at w at.offset) (wall_multiple_below-one at.wall)

-- what is truncated to the nanosecond
pub ruleset whole_nanoseconds = (wall_multiple_below-one, local_multiple_below-one)

pub seconds_below-day : (i : ℤ)
    → instant_of_second (int_div_euclid (unix_seconds_of i) (pos 86_400) *ℤ pos 86_400) ≡ wall_multiple_below nanos_per_day i
unfolding wall_multiple_below
seconds_below-day i = omega (arith, signed_arith)

pub seconds_below-hour : (i : ℤ)
    → instant_of_second (int_div_euclid (unix_seconds_of i) (pos 3_600) *ℤ pos 3_600) ≡ wall_multiple_below nanos_per_hour i
unfolding wall_multiple_below
seconds_below-hour i = omega (arith, signed_arith)

pub seconds_below-minute : (i : ℤ)
    → instant_of_second (int_div_euclid (unix_seconds_of i) (pos 60) *ℤ pos 60) ≡ wall_multiple_below nanos_per_minute i
unfolding wall_multiple_below
seconds_below-minute i = omega (arith, signed_arith)

pub seconds_below-second : (i : ℤ) → instant_of_second (unix_seconds_of i) ≡ wall_multiple_below nanos_per_second i
unfolding wall_multiple_below
seconds_below-second i = omega (arith, signed_arith)

-- what is truncated to a second or more
pub ruleset whole_seconds = (seconds_below-day, seconds_below-hour, seconds_below-minute, seconds_below-second)

-- the parts of an instant that is truncated: a remainder of its seconds or of its nanoseconds is taken away

timestamp_parts-of : (s : ℤ) (n : ℕ) → n < nanos_per_second →
    ◌≡◌ {A = MuxanduTimestamp} (record { seconds = s; nanoseconds = n }) (timestamp_parts (instant_of_parts s n))
timestamp_parts-of s n h =
    let seconds = unix_seconds_of-parts s n h in
    let nanoseconds = unix_nanosecond_of-parts s n h in
    rw (seconds, nanoseconds) refl

nanosecond-bound : (i : ℤ) → unix_nanosecond_of i < nanos_per_second
nanosecond-bound i = omega arith

below-day : (s : ℤ) (n : ℕ) → n < nanos_per_second →
    instant_of_parts (s -ℤ int_rem_euclid s (pos 86_400)) 0 ≡ wall_multiple_below nanos_per_day (instant_of_parts s n)
unfolding wall_multiple_below
below-day s n h = omega (arith, signed_arith)

below-hour : (s : ℤ) (n : ℕ) → n < nanos_per_second →
    instant_of_parts (s -ℤ int_rem_euclid s (pos 3_600)) 0 ≡ wall_multiple_below nanos_per_hour (instant_of_parts s n)
unfolding wall_multiple_below
below-hour s n h = omega (arith, signed_arith)

below-minute : (s : ℤ) (n : ℕ) → n < nanos_per_second →
    instant_of_parts (s -ℤ int_rem_euclid s (pos 60)) 0 ≡ wall_multiple_below nanos_per_minute (instant_of_parts s n)
unfolding wall_multiple_below
below-minute s n h = omega (arith, signed_arith)

below-second : (s : ℤ) (n : ℕ) → n < nanos_per_second → instant_of_parts s 0 ≡ wall_multiple_below nanos_per_second (instant_of_parts s n)
unfolding wall_multiple_below
below-second s n h = omega (arith, signed_arith)

below-millisecond : (s : ℤ) (n : ℕ) → n < nanos_per_second →
    instant_of_parts s (n - n % 1_000_000) ≡ wall_multiple_below nanos_per_millisecond (instant_of_parts s n)
unfolding wall_multiple_below
below-millisecond s n h = omega (arith, signed_arith)

below-microsecond : (s : ℤ) (n : ℕ) → n < nanos_per_second →
    instant_of_parts s (n - n % 1_000) ≡ wall_multiple_below nanos_per_microsecond (instant_of_parts s n)
unfolding wall_multiple_below
below-microsecond s n h = omega (arith, signed_arith)

-- what a remainder leaves of an instant is the instant truncated
by-remainder : (unit : ℕ) (i t : ℤ) (m : ℕ) → m < nanos_per_second →
    instant_of_parts t m ≡ wall_multiple_below unit (instant_of_parts (unix_seconds_of i) (unix_nanosecond_of i)) →
    ◌≡◌ {A = MuxanduTimestamp} (record { seconds = t; nanoseconds = m }) (timestamp_parts (wall_multiple_below unit i))
by-remainder unit i t m h e =
    timestamp_parts-of t m h ∙ ap timestamp_parts (e ∙ ap (wall_multiple_below unit) (instant_of_parts-of i))

pub parts_below-day : (i t : ℤ) → t ≡ unix_seconds_of i -ℤ int_rem_euclid (unix_seconds_of i) (pos 86_400) →
    ◌≡◌ {A = MuxanduTimestamp} (record { seconds = t; nanoseconds = 0 }) (timestamp_parts (wall_multiple_below nanos_per_day i))
parts_below-day i t e =
    by-remainder nanos_per_day i t 0 (omega arith) (rw e (below-day (unix_seconds_of i) (unix_nanosecond_of i) (nanosecond-bound i)))

pub parts_below-hour : (i t : ℤ) → t ≡ unix_seconds_of i -ℤ int_rem_euclid (unix_seconds_of i) (pos 3_600) →
    ◌≡◌ {A = MuxanduTimestamp} (record { seconds = t; nanoseconds = 0 }) (timestamp_parts (wall_multiple_below nanos_per_hour i))
parts_below-hour i t e =
    by-remainder nanos_per_hour i t 0 (omega arith) (rw e (below-hour (unix_seconds_of i) (unix_nanosecond_of i) (nanosecond-bound i)))

pub parts_below-minute : (i t : ℤ) → t ≡ unix_seconds_of i -ℤ int_rem_euclid (unix_seconds_of i) (pos 60) →
    ◌≡◌ {A = MuxanduTimestamp} (record { seconds = t; nanoseconds = 0 }) (timestamp_parts (wall_multiple_below nanos_per_minute i))
parts_below-minute i t e =
    by-remainder nanos_per_minute i t 0 (omega arith) (rw e (below-minute (unix_seconds_of i) (unix_nanosecond_of i) (nanosecond-bound i)))

pub parts_below-second : (i : ℤ) →
    ◌≡◌ {A = MuxanduTimestamp} (record { seconds = unix_seconds_of i; nanoseconds = 0 }) (timestamp_parts (wall_multiple_below nanos_per_second i))
parts_below-second i =
    by-remainder nanos_per_second i (unix_seconds_of i) 0 (omega arith)
    (below-second (unix_seconds_of i) (unix_nanosecond_of i) (nanosecond-bound i))

pub parts_below-millisecond : (i : ℤ) → ◌≡◌ {A = MuxanduTimestamp}
    (record { seconds = unix_seconds_of i; nanoseconds = unix_nanosecond_of i - unix_nanosecond_of i % 1_000_000 })
    (timestamp_parts (wall_multiple_below nanos_per_millisecond i))
parts_below-millisecond i =
    by-remainder nanos_per_millisecond i (unix_seconds_of i) (unix_nanosecond_of i - unix_nanosecond_of i % 1_000_000)
    (omega (arith, nanosecond-bound i)) (below-millisecond (unix_seconds_of i) (unix_nanosecond_of i) (nanosecond-bound i))

pub parts_below-microsecond : (i : ℤ) → ◌≡◌ {A = MuxanduTimestamp}
    (record { seconds = unix_seconds_of i; nanoseconds = unix_nanosecond_of i - unix_nanosecond_of i % 1_000 })
    (timestamp_parts (wall_multiple_below nanos_per_microsecond i))
parts_below-microsecond i =
    by-remainder nanos_per_microsecond i (unix_seconds_of i) (unix_nanosecond_of i - unix_nanosecond_of i % 1_000)
    (omega (arith, nanosecond-bound i)) (below-microsecond (unix_seconds_of i) (unix_nanosecond_of i) (nanosecond-bound i))

pub parts_below-nanosecond : (i : ℤ) → timestamp_parts i ≡ timestamp_parts (wall_multiple_below 1 i)
parts_below-nanosecond i = ap timestamp_parts (wall_multiple_below-one i)
