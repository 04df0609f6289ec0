-- Truncation of a wall clock or an instant to a unit of time.
use Rattle.std.specs.Prelude.{◌≡◌, ℕ, ℤ, pos, ◌+ℤ◌, ◌*ℤ◌, ◌≤ℤ◌, ◌<ℤ◌}
use Rattle.std.specs.Int.{int_div_euclid}
use Rattle.calendar_values.specs.Truncations.{multiple_below}
use Rattle.calendar_values.specs.WallClock.{wall_day, wall_time}

-- the greatest multiple of the unit that is not above w, before 1970 too
unfoldable pub wall_multiple_below : ℕ → ℤ → ℤ
wall_multiple_below unit w = int_div_euclid w (pos unit) *ℤ pos unit

-- t is the greatest multiple of the unit that is not above w
pub record IsGreatestWallMultiple (unit : ℕ) (w t : ℤ) : Type 0 where
  pub multiple : (q : ℤ) × (t ≡ q *ℤ pos unit)
  pub not_above : t ≤ℤ w
  pub greatest : (q : ℤ) → (q *ℤ pos unit) ≤ℤ w → (q *ℤ pos unit) ≤ℤ t

-- t is that multiple, less than a unit below w. It has the date of w, and the time of day of w truncated to the unit.
-- The unit divides a day
pub record TruncatesTo (unit : ℕ) (w t : ℤ) : Type 0 where
  pub value : t ≡ wall_multiple_below unit w
  pub not_above : t ≤ℤ w
  pub within : w <ℤ (t +ℤ pos unit)
  pub date : wall_day t ≡ wall_day w
  pub time : wall_time t ≡ multiple_below unit (wall_time w)
