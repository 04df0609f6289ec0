-- Rules for a caller that compares two differences.
use Rattle.std.proofs.Common.{arith, ℤ, ◌-ℤ◌, ◌≤ℤ◌}
use Rattle.std.proofs.lemmas.Int.{ints}

-- from a later begin to an earlier end it takes no longer
pub sub-at_most : (a b c d : ℤ) → a ≤ℤ c → d ≤ℤ b → (a -ℤ b) ≤ℤ (c -ℤ d)
sub-at_most a b c d h k = omega (arith, ints, h, k)

pub ruleset differences = sub-at_most
