-- Packed numbers are in the order of their wall clocks.
use Rattle.std.proofs.Common.{◌≡◌, ◌↔◌, ℕ, ap, arith, ℤ, pos, ◌+ℤ◌, ◌<ℤ◌, ◌≤ℤ◌, FitsSigned, int_cmp}
use Rattle.std.proofs.lemmas.Int.{ints, by_lt_z}
use Rattle.std.specs.Bool.{one_answer}
use Rattle.std.specs.Cmp.{signed_Decides}
use Rattle.std.specs.Hash as fed
use Rattle.std.specs.Int.{w128}
use Rattle.std.specs.Ordering.{int_eq}
use Rattle.calendar_values.specs.Calendar.{year_start, year_of, ordinal_of}
use Rattle.calendar_values.specs.DayLemmas.{IsInYear-year_of, IsOrdinalDate-of, day_of_ordinal_date-of}
use Rattle.calendar_values.specs.HashInputLemmas.{same_of_i128}
use Rattle.calendar_values.specs.OrderLemmas.{int_cmp_agrees}
use Rattle.calendar_values.specs.Range.{first_year, last_year, first_day, last_day}
use Rattle.calendar_values.specs.SignedArith.{signed_arith}
use Rattle.calendar_values.specs.WallClock.{wall_day, wall_time}
use Rattle.calendar_values.specs.WallClockLemmas.{wall_clock-parts, IsClock-wall_time}
use Rattle.calendar_values.specs.YearLemmas.{year_start-first, year_start-after_last, year_start-mono, year_start-next, days_in_year_bounds}
use Rattle.plain_times.specs.Packed.{IsParts, wall_clock_of_parts, packed_parts, packed_wall_clock}

-- a smaller packed number is that of an earlier wall clock
pub packed_parts-lt : (y z : ℤ) (o p c d : ℕ) → IsParts y o c → IsParts z p d → packed_parts y o c <ℤ packed_parts z p d →
    wall_clock_of_parts y o c <ℤ wall_clock_of_parts z p d
packed_parts-lt y z o p c d h k lt =
    by_lt_z y z
    (λ less. omega (arith, signed_arith, year_start-mono (y +ℤ pos 1) z (omega (arith, signed_arith)), year_start-next y))
    (λ ge. by_lt_z z y
    (λ more. absurd (omega (arith, signed_arith, days_in_year_bounds z)))
    (λ le. let e : z ≡ y = omega (arith, signed_arith) in let start = ap year_start e in omega (arith, signed_arith)))

-- equal packed numbers are those of one wall clock
pub packed_parts-same : (y z : ℤ) (o p c d : ℕ) → IsParts y o c → IsParts z p d → packed_parts y o c ≡ packed_parts z p d →
    wall_clock_of_parts y o c ≡ wall_clock_of_parts z p d
packed_parts-same y z o p c d h k same =
    by_lt_z y z
    (λ less. absurd (omega (arith, signed_arith, days_in_year_bounds y)))
    (λ ge. by_lt_z z y
    (λ more. absurd (omega (arith, signed_arith, days_in_year_bounds z)))
    (λ le. let e : z ≡ y = omega (arith, signed_arith) in let start = ap year_start e in omega (arith, signed_arith)))

-- so parts compare as their wall clocks do
pub int_cmp-packed_parts : (y z : ℤ) (o p c d : ℕ) → IsParts y o c → IsParts z p d →
    int_cmp (packed_parts y o c) (packed_parts z p d) ≡ int_cmp (wall_clock_of_parts y o c) (wall_clock_of_parts z p d)
int_cmp-packed_parts y z o p c d h k =
    int_cmp_agrees _ _ _ _ (packed_parts-lt y z o p c d h k) (packed_parts-lt z y p o d c k h) (packed_parts-same y z o p c d h k)

-- each wall clock has parts, and is the wall clock of those parts
pub IsParts-of : (w : ℤ) → IsParts (year_of (wall_day w)) (ordinal_of (wall_day w)) (wall_time w)
IsParts-of w = record { date = IsOrdinalDate-of (wall_day w); clock = IsClock-wall_time w }

pub wall_clock_of_parts-of : (w : ℤ) → wall_clock_of_parts (year_of (wall_day w)) (ordinal_of (wall_day w)) (wall_time w) ≡ w
wall_clock_of_parts-of w = rw (day_of_ordinal_date-of (wall_day w)) (wall_clock-parts w)

-- so wall clocks compare as their packed numbers do
pub int_cmp-packed_wall_clock : (w v : ℤ) → int_cmp (packed_wall_clock w) (packed_wall_clock v) ≡ int_cmp w v
unfolding packed_wall_clock
int_cmp-packed_wall_clock w v =
    rw (wall_clock_of_parts-of w, wall_clock_of_parts-of v) at (int_cmp-packed_parts _ _ _ _ _ _ (IsParts-of w) (IsParts-of v))

-- wall clocks are equal if their packed numbers are
packed_wall_clock-same : (w v : ℤ) → packed_wall_clock w ≡ packed_wall_clock v → w ≡ v
unfolding packed_wall_clock
packed_wall_clock-same w v e =
    rw (wall_clock_of_parts-of w, wall_clock_of_parts-of v) at (packed_parts-same _ _ _ _ _ _ (IsParts-of w) (IsParts-of v) e)

pub int_eq-packed_wall_clock : (w v : ℤ) → int_eq (packed_wall_clock w) (packed_wall_clock v) ≡ int_eq w v
int_eq-packed_wall_clock w v =
    one_answer (int_eq (packed_wall_clock w) (packed_wall_clock v)) (int_eq w v) (
      λ t. packed_wall_clock-same w v ((signed_Decides (packed_wall_clock w) (packed_wall_clock v)).0 t),
      λ e.
          (signed_Decides (packed_wall_clock w) (packed_wall_clock v)).1 (ap packed_wall_clock e),
    )
    (signed_Decides w v)

pub packed_wall_clock-equal : (w v : ℤ) → (packed_wall_clock w ≡ packed_wall_clock v) ↔ (w ≡ v)
packed_wall_clock-equal w v = (packed_wall_clock-same w v, ap packed_wall_clock)

packed_wall_clock-lt : (w v : ℤ) → packed_wall_clock w <ℤ packed_wall_clock v → w <ℤ v
unfolding packed_wall_clock
packed_wall_clock-lt w v lt =
    rw (wall_clock_of_parts-of w, wall_clock_of_parts-of v) at (packed_parts-lt _ _ _ _ _ _ (IsParts-of w) (IsParts-of v) lt)

pub packed_wall_clock-earlier : (w v : ℤ) → (packed_wall_clock w <ℤ packed_wall_clock v) ↔ (w <ℤ v)
packed_wall_clock-earlier w v = (
  packed_wall_clock-lt w v,
  λ lt.
      by_lt_z (packed_wall_clock w) (packed_wall_clock v) (λ below. below)
      (λ ge. by_lt_z (packed_wall_clock v) (packed_wall_clock w) (λ gt. let back = packed_wall_clock-lt v w gt in absurd (omega (arith, ints)))
      (λ le. let same = packed_wall_clock-same w v (omega (arith, ints)) in absurd (omega (arith, ints)))),
)

-- a day of the range, or at most 300 days before or after it
abbrev pub IsNearRange : ℤ → Type 0
IsNearRange n = (first_day ≤ℤ (n +ℤ pos 300)) × (n ≤ℤ (last_day +ℤ pos 300))

-- its year is one of the range, or the one before or after it
year_of-near_range : (n : ℤ) → IsNearRange n → (first_year ≤ℤ (year_of n +ℤ pos 1)) × (year_of n ≤ℤ (last_year +ℤ pos 1))
year_of-near_range n h =
    let here = IsInYear-year_of n in
    let next = year_of n +ℤ pos 1 in (
      by_lt_z next first_year (λ lt. let start = year_start-mono (next +ℤ pos 1) first_year (omega (arith, signed_arith)) in
          absurd (omega (arith, signed_arith, h.0, year_start-first, year_start-next next, days_in_year_bounds next))) (λ ge. ge),
      by_lt_z (last_year +ℤ pos 1) (year_of n)
          (λ gt. let start = year_start-mono (last_year +ℤ pos 1 +ℤ pos 1) (year_of n) (omega (arith, signed_arith)) in
          absurd (omega (arith, signed_arith, h.1, year_start-after_last, year_start-next (last_year +ℤ pos 1), days_in_year_bounds (last_year +ℤ pos 1))))
          (λ le. le),
    )

FitsSigned-packed_wall_clock : (w : ℤ) → IsNearRange (wall_day w) → FitsSigned w128 (packed_wall_clock w)
unfolding packed_wall_clock
FitsSigned-packed_wall_clock w h =
    let year = year_of-near_range (wall_day w) h in
    let ordinal = IsOrdinalDate-of (wall_day w) in
    let days = days_in_year_bounds (year_of (wall_day w)) in
    let clock = IsClock-wall_time w in
    omega (arith, signed_arith)

-- a hasher gets the same input exactly if the wall clocks are the same
pub hashed_by_wall_clock : (w v : ℤ) → IsNearRange (wall_day w) → IsNearRange (wall_day v)
    → (fed.i128 (packed_wall_clock w) ≡ fed.i128 (packed_wall_clock v)) ↔ (w ≡ v)
hashed_by_wall_clock w v h k = (
  λ e. packed_wall_clock-same w v (same_of_i128 _ _ (FitsSigned-packed_wall_clock w h) (FitsSigned-packed_wall_clock v k) e),
  ap (λ x. fed.i128 (packed_wall_clock x)),
)

pub ruleset packed_order = (int_cmp-packed_wall_clock, int_eq-packed_wall_clock)
