-- Instants that lie far inside the range, so that each step can hold them.
use Rattle.std.proofs.Common.{◌<◌, arith, ℤ, pos, ◌+ℤ◌, ◌-ℤ◌, ◌≤ℤ◌, unsigned_abs}
use Rattle.calendar_values.specs.Calendar.{year_of}
use Rattle.calendar_values.specs.DayLemmas.{IsInYear-year_of}
use Rattle.calendar_values.specs.Range.{first_year, last_year, first_day, last_day}
use Rattle.calendar_values.specs.SignedArith.{signed_arith}
use Rattle.calendar_values.specs.WallClock.{IsWallClock, wall_day}
use Rattle.calendar_values.specs.WallClockLemmas.{wall_clock-parts, IsClock-wall_time}
use Rattle.calendar_values.specs.YearLemmas.{year_start-later, year_start-first, year_start-after_last}
use Rattle.offset_times.specs.Local.{Local, IsLocal, instant_of}
use Rattle.stamp_times.specs.Travel.{shown_by, IsStep, IsFarInside}
use Rattle.stamp_times.specs.declared.chains.steps.Step.{Step}
use Rattle.stamp_times.specs.declared.chains.steps.Step.TheVariants.{ToStamp, ToUtc, ToOffset}

-- by the year of what clocks at an offset show
far_day : (n : ℤ) → unsigned_abs (year_of n) < 999_999 → ((first_day +ℤ pos 365) ≤ℤ n) × (n ≤ℤ (last_day -ℤ pos 365))
far_day n h =
    let y = year_of n in
    let here = IsInYear-year_of n in (
      omega (arith, signed_arith, here.low, year_start-later first_year y (omega (arith, signed_arith)), year_start-first),
      omega (arith, signed_arith, here.high, year_start-later (y +ℤ pos 1) (last_year +ℤ pos 1) (omega (arith, signed_arith)), year_start-after_last),
    )

pub IsFarInside-year : (at : Local) → IsLocal at → unsigned_abs (year_of (wall_day at.wall)) < 999_999 → IsFarInside (instant_of at)
unfolding instant_of
IsFarInside-year at is h o k =
    let far = far_day (wall_day at.wall) h in
    omega (arith, signed_arith, far.0, far.1, is.1, wall_clock-parts at.wall, IsClock-wall_time at.wall)

pub IsFarInside-utc_year : (i : ℤ) → unsigned_abs (year_of (wall_day i)) < 999_999 → IsFarInside i
IsFarInside-utc_year i h o k =
    let far = far_day (wall_day i) h in omega (arith, signed_arith, far.0, far.1, wall_clock-parts i, IsClock-wall_time i)

-- the target of each step can hold such an instant
pub IsFarInside-step : (i : ℤ) (step : Step) → IsFarInside i → IsStep step → IsWallClock (shown_by step i)
IsFarInside-step i ToStamp far is = let utc = far (pos 0) (omega (arith, signed_arith)) in (omega (arith, signed_arith), omega (arith, signed_arith))
IsFarInside-step i ToUtc far is = let utc = far (pos 0) (omega (arith, signed_arith)) in (omega (arith, signed_arith), omega (arith, signed_arith))
IsFarInside-step i (ToOffset o) far is = far o is
