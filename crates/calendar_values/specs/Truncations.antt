-- Truncation to a unit of time.
use Rattle.std.specs.Prelude.{◌≡◌, ℕ, ◌*◌, ◌/◌, ◌≤◌}

-- the greatest multiple of the unit that is not above c
abbrev pub multiple_below : ℕ → ℕ → ℕ
multiple_below unit c = c / unit * unit

-- t is the greatest multiple of the unit that is not above c
pub record IsGreatestMultiple (unit c t : ℕ) : Type 0 where
  pub multiple : (q : ℕ) × (t ≡ q * unit)
  pub not_above : t ≤ c
  pub greatest : (q : ℕ) → q * unit ≤ c → q * unit ≤ t
