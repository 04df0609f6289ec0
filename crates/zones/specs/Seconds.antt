-- The seconds that zones know.
use Rattle.std.specs.Prelude.{ℤ, pos, neg_ℤ, ◌≤ℤ◌}

-- a second at most 400,000,000 days from 1970
abbrev pub IsSecond : ℤ → Type 0
IsSecond s = (neg_ℤ (pos 34_560_000_000_000) ≤ℤ s) × (s ≤ℤ pos 34_560_000_000_000)
