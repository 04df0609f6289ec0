-- A truncation is the greatest multiple of its unit that is not above the clock.
use Rattle.std.proofs.Common.{ℕ, ◌/◌, ◌<◌, refl, arith}
use Rattle.std.proofs.lemmas.Nat.{div-add-mod', le-div}
use Rattle.std.proofs.Math.Nat.{mul-le-mul_right}
use Rattle.calendar_values.specs.Truncations.{multiple_below, IsGreatestMultiple}

pub IsGreatestMultiple-multiple_below : (unit c : ℕ) → 0 < unit → IsGreatestMultiple unit c (multiple_below unit c)
IsGreatestMultiple-multiple_below unit c some = record {
  multiple = (c / unit, refl);
  not_above = omega (arith, div-add-mod' c unit);
  greatest = λ q low. mul-le-mul_right unit (le-div q c unit some low);
}
