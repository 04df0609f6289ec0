-- Sums of a wall clock and a duration. Out of range, a checked sum is None, and a saturating one the nearest wall clock in range.
use Rattle.std.specs.Prelude.{◌≡◌, ℤ, pos, ◌+ℤ◌, ◌-ℤ◌, ◌≤ℤ◌, ◌<ℤ◌, Option, Some, None, if◌then◌else◌, int_lt}
use Rattle.calendar_values.specs.Range.{is_outside}
use Rattle.calendar_values.specs.WallClock.{first_wall_clock, last_wall_clock, IsWallClock}

-- the number, if it is a wall clock of the range
unfoldable pub wall_clock_if_any : ℤ → Option ℤ
wall_clock_if_any w = if is_outside first_wall_clock last_wall_clock w then None else Some w

-- the wall clock of the range that is nearest to the number
unfoldable pub nearest_wall_clock : ℤ → ℤ
nearest_wall_clock w =
    if int_lt w first_wall_clock then first_wall_clock
    else (if int_lt last_wall_clock w then last_wall_clock else w)

-- v is the wall clock of the range that is nearest to w plus the duration. It moves from w in the direction of the duration,
-- and no further than the duration
pub record IsSaturatingSum (w duration v : ℤ) : Type 0 where
  pub value : v ≡ nearest_wall_clock (w +ℤ duration)
  pub exact : IsWallClock (w +ℤ duration) → v ≡ w +ℤ duration
  pub at_the_end : last_wall_clock <ℤ (w +ℤ duration) → v ≡ last_wall_clock
  pub at_the_beginning : (w +ℤ duration) <ℤ first_wall_clock → v ≡ first_wall_clock
  pub not_before : pos 0 ≤ℤ duration → w ≤ℤ v
  pub not_after : duration ≤ℤ pos 0 → v ≤ℤ w
  pub not_above : pos 0 ≤ℤ duration → v ≤ℤ (w +ℤ duration)
  pub not_below : duration ≤ℤ pos 0 → (w +ℤ duration) ≤ℤ v

-- v is the wall clock of the range that is nearest to w minus the duration. It moves from w against the direction of the
-- duration, and no further than the duration
pub record IsSaturatingDifference (w duration v : ℤ) : Type 0 where
  pub value : v ≡ nearest_wall_clock (w -ℤ duration)
  pub exact : IsWallClock (w -ℤ duration) → v ≡ w -ℤ duration
  pub at_the_end : last_wall_clock <ℤ (w -ℤ duration) → v ≡ last_wall_clock
  pub at_the_beginning : (w -ℤ duration) <ℤ first_wall_clock → v ≡ first_wall_clock
  pub not_before : duration ≤ℤ pos 0 → w ≤ℤ v
  pub not_after : pos 0 ≤ℤ duration → v ≤ℤ w
  pub not_above : duration ≤ℤ pos 0 → v ≤ℤ (w -ℤ duration)
  pub not_below : pos 0 ≤ℤ duration → (w -ℤ duration) ≤ℤ v
