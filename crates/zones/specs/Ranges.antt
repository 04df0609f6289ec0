-- The ranges of moments.
use Rattle.std.specs.Prelude.{ℤ, pos, neg_ℤ, ◌+ℤ◌, ◌-ℤ◌, ◌≤ℤ◌}

-- seconds after a midnight: at most 167 hours, 59 minutes and 59 seconds, either way
abbrev pub IsRuleTime : ℤ → Type 0
IsRuleTime t = (neg_ℤ (pos 604_799) ≤ℤ t) × (t ≤ℤ pos 604_799)

-- a moment of a year that rules know
abbrev pub IsMoment : ℤ → Type 0
IsMoment m = (neg_ℤ (pos 2_399_000) ≤ℤ m) × (m ≤ℤ pos 2_399_000)

-- a second that a cycle is asked for
abbrev pub IsCycleSecond : ℤ → Type 0
IsCycleSecond s = (neg_ℤ (pos 34_560_001_000_000) ≤ℤ s) × (s ≤ℤ pos 34_560_001_000_000)

-- the second of a moment, or a wall clock near it
abbrev pub IsTailSecond : ℤ → Type 0
IsTailSecond s = (neg_ℤ (pos 40_000_000_200_000) ≤ℤ s) × (s ≤ℤ pos 40_000_000_200_000)

-- the first moment of a cycle after a table
abbrev pub IsTailMoment : ℤ → Type 0
IsTailMoment m = (neg_ℤ (pos 2_399_000) ≤ℤ m) × (m ≤ℤ pos 2_398_000)

-- a second that differs from a wall clock by the greatest offset at most
abbrev pub IsNear : ℤ → ℤ → Type 0
IsNear local t = ((local -ℤ pos 93_599) ≤ℤ t) × (t ≤ℤ (local +ℤ pos 93_599))
