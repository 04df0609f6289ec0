-- Sums of seconds and nanoseconds, with a carry between them.
use Rattle.std.proofs.Common.{◌≡◌, ℤ, Option, SomeIff, subst}
use Rattle.calendar_values.specs.WallClock.{IsWallClock}

-- the same sum, written in another way
pub IsWallClock-same : (r : Option ℤ) (v w : ℤ) → SomeIff r (IsWallClock v) v → v ≡ w → SomeIff r (IsWallClock w) w
IsWallClock-same r v w h e = subst (λ (z : ℤ). SomeIff r (IsWallClock z) z) e h
