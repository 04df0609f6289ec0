-- Signed numbers for the tactic `omega`, which reads z as `up z - down z`: std's set `ints`, in forms that need no case split.
use Rattle.std.proofs.Common.{◌≡◌, ℕ, suc, ◌+◌, ◌*◌, ◌%◌, ◌^◌, ◌<◌, ◌≤◌, ◌⊎◌, inl, inr, refl, sym, ◌∙◌, arith, ℤ, pos, negsuc, to_z, of_z, FitsSigned, int_rem}
use Rattle.std.proofs.Common.{unsigned_abs}
use Rattle.std.specs.Int.{Width, int_div_euclid, int_rem_euclid}
use borrow.Author.Differences.{up, down, fits_out, same_out, Apart-out, lt_T, le_T, lt_not, le_not, lt-true, lt-false, le-true, le-false, true-lt, false-lt}
use borrow.Author.Differences.{true-le, false-le, not_negative_out, lt_out, le_out, fits_in, same_in, lt_in, le_in, below_in, at_most_in, not_negative_in}
use borrow.Author.Differences.{sum_is_lem, neg_is, product_is, quot_is, back_is, small_is, read_fits}
use mir.Val.{hbits}
use native.Mathlib.Nat.{zero-mod}

-- a number between the type's ends fits it
pub fits_between : (w : Width) (z : ℤ) → (up z < down z + 2 ^ hbits w) × (down z ≤ up z + 2 ^ hbits w) → FitsSigned w z
fits_between w z h = fits_in w z (omega arith)

-- the bits of such a number have its value
pub back_between : (w : Width) (z : ℤ) → up z < down z + 2 ^ hbits w → down z ≤ up z + 2 ^ hbits w → (up (to_z w (of_z w z)) ≡ up z) ×
    (down (to_z w (of_z w z)) ≡ down z)
back_between w z h k = back_is w z (omega arith)

pub int_rem-parts : (a : ℤ) (k : ℕ) → (up (int_rem a (pos k)) ≡ up a % k) × (down (int_rem a (pos k)) ≡ down a % k)
int_rem-parts (pos a) k = (refl, sym (zero-mod k))
int_rem-parts (negsuc a) k = ((neg_is (pos (suc a % k))).0 ∙ sym (zero-mod k), (neg_is (pos (suc a % k))).1)

pub unsigned_abs-parts : (z : ℤ) → unsigned_abs z ≡ up z + down z
unsigned_abs-parts (pos n) = omega arith
unsigned_abs-parts (negsuc n) = omega arith

-- the quotient q that rounds down has k * q ≤ a < k * q + k
pub int_div_euclid-parts : (a : ℤ) (k : ℕ) → 0 < k → (up (int_div_euclid a (pos k)) * k + down a ≤ down (int_div_euclid a (pos k)) * k + up a) ×
    (down (int_div_euclid a (pos k)) * k + up a < up (int_div_euclid a (pos k)) * k + down a + k)
int_div_euclid-parts (pos a) k h = omega arith
int_div_euclid-parts (negsuc a) k h = omega arith

-- the remainder is the rest after that quotient: at least 0 and less than k
pub int_rem_euclid-parts : (a : ℤ) (k : ℕ) → 0 < k → (up (int_rem_euclid a (pos k)) + up (int_div_euclid a (pos k)) * k + down a ≡
    down (int_div_euclid a (pos k)) * k + up a) × (down (int_rem_euclid a (pos k)) ≡ 0) × (up (int_rem_euclid a (pos k)) < k)
int_rem_euclid-parts (pos a) k h = omega arith
int_rem_euclid-parts (negsuc a) k h = omega arith

-- the size of a number that is not negative
pub abs_of_nonnegative : (z : ℤ) → down z ≤ up z → unsigned_abs z + down z ≡ up z
abs_of_nonnegative (pos n) h = omega arith
abs_of_nonnegative (negsuc n) h = absurd (omega arith)

-- one of the two parts is 0: list it for a number that is divided
pub one_part : (z : ℤ) → (up z ≡ 0) ⊎ (down z ≡ 0)
one_part (pos n) = inr refl
one_part (negsuc n) = inl refl

-- for `omega (arith, signed_arith)`
pub ruleset signed_arith = (
  fits_out,
  same_out,
  Apart-out,
  lt_out,
  le_out,
  lt_T,
  le_T,
  lt_not,
  le_not,
  lt-true,
  lt-false,
  le-true,
  le-false,
  true-lt,
  false-lt,
  true-le,
  false-le,
  not_negative_out,
  fits_between,
  same_in,
  lt_in,
  le_in,
  below_in,
  at_most_in,
  not_negative_in,
  sum_is_lem,
  neg_is,
  product_is,
  quot_is,
  int_rem-parts,
  unsigned_abs-parts,
  abs_of_nonnegative,
  int_div_euclid-parts,
  int_rem_euclid-parts,
  back_between,
  read_fits,
)

-- the same for code that casts from unsigned types
pub ruleset signed_casts = (signed_arith, small_is)
