-- Unix seconds as days and times of day.
use Rattle.std.proofs.Common.{◌≡◌, ℕ, ◌/◌, ◌<◌, ◌∙◌, arith, ℤ, pos, neg_ℤ, ◌+ℤ◌, ◌*ℤ◌, ◌≤ℤ◌, FitsSigned}
use Rattle.std.specs.Int.{w128, int_div_euclid, int_rem_euclid}
use Rattle.calendar_values.specs.Clock.{nanos_per_day, nanos_per_second, nanosecond_of}
use Rattle.calendar_values.specs.Range.{IsDay}
use Rattle.calendar_values.specs.SignedArith.{signed_arith, signed_casts}
use Rattle.calendar_values.specs.WallClockLemmas.{IsWallClock-wall_clock}
use Rattle.calendar_values.specs.WallClock.{wall_clock, wall_day, wall_time, unix_seconds_of, IsWallClock}
use Rattle.utc_times.specs.UnixTime.{instant_of_second}

-- the wall clock of the day of a second, and of the clock so many nanoseconds after its beginning
pub wall_clock-second : (second : ℤ) (n c : ℕ) → pos c ≡ int_rem_euclid second (pos 86_400) *ℤ pos nanos_per_second +ℤ pos n
    → wall_clock (int_div_euclid second (pos 86_400)) c ≡ instant_of_second second +ℤ pos n
wall_clock-second second n c e = omega (arith, signed_arith)

clock_of_second : (second : ℤ) (n c : ℕ) → n < nanos_per_second → pos c ≡ int_rem_euclid second (pos 86_400) *ℤ pos nanos_per_second +ℤ pos n →
    c < nanos_per_day
clock_of_second second n c below e = omega (arith, signed_arith)

-- the range has an instant of a second if it has the day
pub IsWallClock-second : (second d v : ℤ) (n c : ℕ) → IsDay (int_div_euclid second (pos 86_400)) × (d ≡ int_div_euclid second (pos 86_400)) →
    n < nanos_per_second
    → pos c ≡ int_rem_euclid second (pos 86_400) *ℤ pos nanos_per_second +ℤ pos n → v ≡ wall_clock d c
    → IsWallClock (instant_of_second second +ℤ pos n) × (v ≡ instant_of_second second +ℤ pos n)
IsWallClock-second second d v n c day below clock e =
    let n_day = int_div_euclid second (pos 86_400) in
    let whole : wall_clock n_day c ≡ instant_of_second second +ℤ pos n = wall_clock-second second n c clock in
    let in_day : c < nanos_per_day = clock_of_second second n c below clock in
    (rw (← whole) (IsWallClock-wall_clock n_day c in_day day.0), e ∙ rw day.1 whole)

-- and only then
pub IsDay-second : (second : ℤ) (n : ℕ) → n < nanos_per_second → IsWallClock (instant_of_second second +ℤ pos n) → IsDay (int_div_euclid second (pos 86_400))
IsDay-second second n below h = omega (arith, signed_arith)

-- a second of the range lies less than 400,000,000 days from 1970
pub IsDay-near : (second : ℤ) → IsDay (int_div_euclid second (pos 86_400))
    → (neg_ℤ (pos 34_560_000_000_000) ≤ℤ second) × (second ≤ℤ pos 34_560_000_000_000)
IsDay-near second day = omega (arith, signed_arith)

-- an instant of the range lies in a second less than 400,000,000 days from 1970
pub second-near : (w : ℤ) → IsWallClock w → (neg_ℤ (pos 34_560_000_000_000) ≤ℤ int_div_euclid w (pos nanos_per_second)) ×
    (int_div_euclid w (pos nanos_per_second) ≤ℤ pos 34_560_000_000_000)
second-near w h = omega (arith, signed_arith)

pub FitsSigned-second-128 : (w : ℤ) → FitsSigned w128 w → FitsSigned w128 (int_div_euclid w (pos nanos_per_second))
FitsSigned-second-128 w h = omega (arith, signed_arith)

-- the Unix second of a day and a clock
pub unix_seconds_of-parts : (w : ℤ) → wall_day w *ℤ pos 86_400 +ℤ pos (wall_time w / nanos_per_second) ≡ unix_seconds_of w
unfolding wall_day wall_time
unix_seconds_of-parts w = omega (arith, signed_arith)

-- an instant is its Unix second and the nanosecond of that second
pub unix_seconds_of-nanosecond : (w : ℤ) → unix_seconds_of w *ℤ pos nanos_per_second +ℤ pos (nanosecond_of (wall_time w)) ≡ w
unfolding wall_time
unix_seconds_of-nanosecond w = omega (arith, signed_arith)

pub ruleset unix_seconds = (signed_casts, unix_seconds_of-parts, unix_seconds_of-nanosecond)
