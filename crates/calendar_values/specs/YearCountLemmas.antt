-- Years and months that are counted fit an i32.
use Rattle.std.proofs.Common.{◌≡◌, ◌∙◌, ℕ, ◌≤◌, ℤ, pos, ◌+ℤ◌, ◌-ℤ◌, ◌*ℤ◌, arith, FitsSigned, w32, to_z, of_z, to_z-of_z}
use Rattle.calendar_values.specs.Range.{IsYear}
use Rattle.calendar_values.specs.SignedArith.{signed_arith}

-- the year after, and the year before
pub FitsSigned-next_year : (y : ℤ) → IsYear y → FitsSigned w32 (y +ℤ pos 1)
FitsSigned-next_year y h = omega (arith, signed_arith, h)

pub to_z-next_year : (y : ℤ) → IsYear y → to_z w32 (of_z w32 (y +ℤ pos 1)) ≡ y +ℤ pos 1
to_z-next_year y h = to_z-of_z (FitsSigned-next_year y h)

pub FitsSigned-previous_year : (y : ℤ) → IsYear y → FitsSigned w32 (y -ℤ pos 1)
FitsSigned-previous_year y h = omega (arith, signed_arith, h)

pub to_z-previous_year : (y : ℤ) → IsYear y → to_z w32 (of_z w32 (y -ℤ pos 1)) ≡ y -ℤ pos 1
to_z-previous_year y h = to_z-of_z (FitsSigned-previous_year y h)

-- the months of the years from the year 0, and those of a month of a year
pub FitsSigned-months_of_year : (y : ℤ) → IsYear y → FitsSigned w32 (y *ℤ pos 12)
FitsSigned-months_of_year y h = omega (arith, signed_arith, h)

pub to_z-months_of_year : (y : ℤ) → IsYear y → to_z w32 (of_z w32 (y *ℤ pos 12)) ≡ y *ℤ pos 12
to_z-months_of_year y h = to_z-of_z (FitsSigned-months_of_year y h)

pub FitsSigned-months_to : (y : ℤ) (m : ℕ) → IsYear y → m ≤ 12 → FitsSigned w32 ((y *ℤ pos 12) +ℤ pos m)
FitsSigned-months_to y m h k = omega (arith, signed_arith, h)

pub to_z-months_to : (y : ℤ) (m : ℕ) → IsYear y → m ≤ 12 → to_z w32 (of_z w32 ((y *ℤ pos 12) +ℤ pos m)) ≡ (y *ℤ pos 12) +ℤ pos m
to_z-months_to y m h k = to_z-of_z (FitsSigned-months_to y m h k)

pub FitsSigned-months_before : (y : ℤ) (m : ℕ) → IsYear y → m ≤ 12 → FitsSigned w32 ((y *ℤ pos 12) +ℤ pos m -ℤ pos 1)
FitsSigned-months_before y m h k = omega (arith, signed_arith, h)

pub to_z-months_before : (y : ℤ) (m : ℕ) → IsYear y → m ≤ 12 → to_z w32 (of_z w32 ((y *ℤ pos 12) +ℤ pos m -ℤ pos 1)) ≡ (y *ℤ pos 12) +ℤ pos m -ℤ pos 1
to_z-months_before y m h k = to_z-of_z (FitsSigned-months_before y m h k)

-- the years between two, and their months
pub FitsSigned-years_apart : (y z : ℤ) → IsYear y → IsYear z → FitsSigned w32 (y -ℤ z)
FitsSigned-years_apart y z h k = omega (arith, signed_arith, h, k)

pub to_z-years_apart : (y z : ℤ) → IsYear y → IsYear z → to_z w32 (of_z w32 (y -ℤ z)) ≡ y -ℤ z
to_z-years_apart y z h k = to_z-of_z (FitsSigned-years_apart y z h k)

pub FitsSigned-months_of_years : (y z : ℤ) → IsYear y → IsYear z → FitsSigned w32 ((y -ℤ z) *ℤ pos 12)
FitsSigned-months_of_years y z h k = omega (arith, signed_arith, h, k)

pub to_z-months_of_years : (y z : ℤ) → IsYear y → IsYear z → to_z w32 (of_z w32 ((y -ℤ z) *ℤ pos 12)) ≡ (y -ℤ z) *ℤ pos 12
to_z-months_of_years y z h k = to_z-of_z (FitsSigned-months_of_years y z h k)

pub FitsSigned-months_apart : (y z : ℤ) (m n : ℕ) → IsYear y → IsYear z → m ≤ 12 → n ≤ 12
    → FitsSigned w32 (((y -ℤ z) *ℤ pos 12) +ℤ (pos m -ℤ pos n))
FitsSigned-months_apart y z m n h k first second = omega (arith, signed_arith, h, k)

pub to_z-months_apart : (y z : ℤ) (m n : ℕ) → IsYear y → IsYear z → m ≤ 12 → n ≤ 12
    → to_z w32 (of_z w32 (((y -ℤ z) *ℤ pos 12) +ℤ (pos m -ℤ pos n))) ≡ ((y -ℤ z) *ℤ pos 12) +ℤ (pos m -ℤ pos n)
to_z-months_apart y z m n h k first second = to_z-of_z (FitsSigned-months_apart y z m n h k first second)

-- the months of two in one year
pub FitsSigned-months_in_year : (m n : ℕ) → m ≤ 12 → n ≤ 12 → FitsSigned w32 (pos m -ℤ pos n)
FitsSigned-months_in_year m n first second = omega (arith, signed_arith)

pub to_z-months_in_year : (m n : ℕ) → m ≤ 12 → n ≤ 12 → to_z w32 (of_z w32 (pos m -ℤ pos n)) ≡ pos m -ℤ pos n
to_z-months_in_year m n first second = to_z-of_z (FitsSigned-months_in_year m n first second)

-- the months from one to another, each counted from the year 0
pub FitsSigned-months_between : (y z : ℤ) (m n : ℕ) → IsYear y → IsYear z → m ≤ 12 → n ≤ 12
    → FitsSigned w32 (((y *ℤ pos 12) +ℤ pos m) -ℤ ((z *ℤ pos 12) +ℤ pos n))
FitsSigned-months_between y z m n h k first second = omega (arith, signed_arith, h, k)

pub to_z-months_between : (y z : ℤ) (m n : ℕ) → IsYear y → IsYear z → m ≤ 12 → n ≤ 12
    → to_z w32 (of_z w32 (((y *ℤ pos 12) +ℤ pos m) -ℤ ((z *ℤ pos 12) +ℤ pos n)))
    ≡ ((y *ℤ pos 12) +ℤ pos m -ℤ pos 1) -ℤ ((z *ℤ pos 12) +ℤ pos n -ℤ pos 1)
to_z-months_between y z m n h k first second = to_z-of_z (FitsSigned-months_between y z m n h k first second) ∙ omega (arith, signed_arith)

pub to_z-index_between : (y z : ℤ) (m n : ℕ) → IsYear y → IsYear z → m ≤ 12 → n ≤ 12
    → to_z w32 (of_z w32 (((y -ℤ z) *ℤ pos 12) +ℤ (pos m -ℤ pos n)))
    ≡ ((y *ℤ pos 12) +ℤ pos m -ℤ pos 1) -ℤ ((z *ℤ pos 12) +ℤ pos n -ℤ pos 1)
to_z-index_between y z m n h k first second = to_z-months_apart y z m n h k first second ∙ omega (arith, signed_arith)

-- a caller who lists `year_counts` counts years and months in an i32
pub ruleset year_counts = (
  FitsSigned-next_year,
  to_z-next_year,
  FitsSigned-previous_year,
  to_z-previous_year,
  FitsSigned-months_of_year,
  to_z-months_of_year,
  FitsSigned-months_to,
  to_z-months_to,
  FitsSigned-months_before,
  to_z-months_before,
  FitsSigned-years_apart,
  to_z-years_apart,
  FitsSigned-months_of_years,
  to_z-months_of_years,
  FitsSigned-months_apart,
  to_z-months_apart,
  FitsSigned-months_in_year,
  to_z-months_in_year,
  FitsSigned-months_between,
  to_z-months_between,
  to_z-index_between,
)
