-- Moments by the months in which they come.
use Rattle.std.proofs.Common.{◌≡◌, ℤ, pos, neg_ℤ, ◌+ℤ◌, ◌-ℤ◌, ◌*ℤ◌, ◌≤ℤ◌, ◌<ℤ◌, to_z, of_z, ap, arith}
use mir.Syntax.{w64}
use Rattle.calendar_values.specs.Calendar.{year_start}
use Rattle.calendar_values.specs.SignedArith.{signed_arith, one_part}
use Rattle.calendar_values.specs.YearLemmas.{year_start-next, days_in_year_bounds}
use Rattle.zones.specs.declared.cycle.Cycle.{Cycle}
use Rattle.zones.specs.Cycles.{moment_year, local_second, cycle_second, ComesNear, IsSearchedYear, IsSearched}
use Rattle.zones.proofs.FarLemmas.{first_at, other_at}
use Rattle.zones.proofs.TableLemmas.{le_yes, le_no}

-- the moments of a year
pub first_in : (c : Cycle) (y : ℤ) → cycle_second c (pos 2 *ℤ y) ≡ local_second c.first y -ℤ c.after_second.offset
first_in c y =
    let year : moment_year (pos 2 *ℤ y) ≡ y = omega (arith, signed_arith, one_part (pos 2 *ℤ y)) in
    first_at c (pos 2 *ℤ y) y (le_yes (pos 2 *ℤ y) (pos 2 *ℤ moment_year (pos 2 *ℤ y)) (omega (arith, signed_arith))) year

pub second_in : (c : Cycle) (y : ℤ) → cycle_second c (pos 2 *ℤ y +ℤ pos 1) ≡ local_second c.second y -ℤ c.after_first.offset
second_in c y =
    let year : moment_year (pos 2 *ℤ y +ℤ pos 1) ≡ y = omega (arith, signed_arith, one_part (pos 2 *ℤ y +ℤ pos 1)) in
    other_at c (pos 2 *ℤ y +ℤ pos 1) y
    (le_no (pos 2 *ℤ y +ℤ pos 1) (pos 2 *ℤ moment_year (pos 2 *ℤ y +ℤ pos 1)) (omega (arith, signed_arith))) year

-- between the moments of a year, whose seconds are counted from its start
pub within_year : (c : Cycle) (y f s from until : ℤ) → ComesNear (λ x. cycle_second c (pos 2 *ℤ x)) f
    → ComesNear (λ x. cycle_second c (pos 2 *ℤ x +ℤ pos 1)) s → (f +ℤ pos 1_814_400) ≤ℤ from → until <ℤ s
    → (cycle_second c (pos 2 *ℤ y) ≤ℤ (year_start y *ℤ pos 86_400 +ℤ from)) × ((year_start y *ℤ pos 86_400 +ℤ until) <ℤ cycle_second c
    (pos 2 *ℤ y +ℤ pos 1))
within_year c y f s from until first second begun ahead =
    let a = (first y).1 in
    let b = (second y).0 in
    (omega (arith, signed_arith), omega (arith, signed_arith))

-- after both of them
pub after_year : (c : Cycle) (y f s from until : ℤ) → ComesNear (λ x. cycle_second c (pos 2 *ℤ x)) f
    → ComesNear (λ x. cycle_second c (pos 2 *ℤ x +ℤ pos 1)) s → (s +ℤ pos 1_814_400) ≤ℤ from → until <ℤ (f +ℤ pos 31_536_000)
    → (cycle_second c (pos 2 *ℤ y +ℤ pos 1) ≤ℤ (year_start y *ℤ pos 86_400 +ℤ from)) × ((year_start y *ℤ pos 86_400 +ℤ until) <ℤ cycle_second c
    (pos 2 *ℤ y +ℤ pos 1 +ℤ pos 1))
after_year c y f s from until first second begun ahead =
    let a = (second y).1 in
    let b = (first (y +ℤ pos 1)).0 in
    let next = year_start-next y in
    let days = (days_in_year_bounds y).0 in
    let same : pos 2 *ℤ (y +ℤ pos 1) ≡ pos 2 *ℤ y +ℤ pos 1 +ℤ pos 1 = omega (arith, signed_arith) in
    let moved = ap (cycle_second c) same in
    (omega (arith, signed_arith), omega (arith, signed_arith))

-- before both of them
pub before_year : (c : Cycle) (y f s from until : ℤ) → ComesNear (λ x. cycle_second c (pos 2 *ℤ x)) f
    → ComesNear (λ x. cycle_second c (pos 2 *ℤ x +ℤ pos 1)) s → (s +ℤ pos 1_814_400) ≤ℤ (from +ℤ pos 31_536_000) → until <ℤ f
    → (cycle_second c (pos 2 *ℤ y -ℤ pos 1) ≤ℤ (year_start y *ℤ pos 86_400 +ℤ from)) × ((year_start y *ℤ pos 86_400 +ℤ until) <ℤ cycle_second c
    (pos 2 *ℤ y -ℤ pos 1 +ℤ pos 1))
before_year c y f s from until first second begun ahead =
    let a = (second (y -ℤ pos 1)).1 in
    let b = (first y).0 in
    let back : y -ℤ pos 1 +ℤ pos 1 ≡ y = omega (arith, signed_arith) in
    let start = ap year_start back in
    let next = year_start-next (y -ℤ pos 1) in
    let days = (days_in_year_bounds (y -ℤ pos 1)).0 in
    let same : pos 2 *ℤ (y -ℤ pos 1) +ℤ pos 1 ≡ pos 2 *ℤ y -ℤ pos 1 = omega (arith, signed_arith) in
    let moved = ap (cycle_second c) same in
    let again : pos 2 *ℤ y -ℤ pos 1 +ℤ pos 1 ≡ pos 2 *ℤ y = omega (arith, signed_arith) in
    let kept = ap (cycle_second c) again in
    (omega (arith, signed_arith), omega (arith, signed_arith))

-- the numbers of these moments, in 64 bits
pub two_back : (y : ℤ) → IsSearchedYear y → (to_z w64 (of_z w64 (pos 2 *ℤ to_z w64 (of_z w64 y))) ≡ pos 2 *ℤ y) ×
    (to_z w64 (of_z w64 (to_z w64 (of_z w64 (pos 2 *ℤ to_z w64 (of_z w64 y))) +ℤ pos 1)) ≡ pos 2 *ℤ y +ℤ pos 1) ×
    (to_z w64 (of_z w64 (to_z w64 (of_z w64 (pos 2 *ℤ to_z w64 (of_z w64 y))) -ℤ pos 1)) ≡ pos 2 *ℤ y -ℤ pos 1)
two_back y h =
    let low = h.0 in
    let high = h.1 in
    (omega (arith, signed_arith), omega (arith, signed_arith), omega (arith, signed_arith))

pub searched : (y : ℤ) → IsSearchedYear y → IsSearched (pos 2 *ℤ y) × IsSearched (pos 2 *ℤ y +ℤ pos 1) × IsSearched (pos 2 *ℤ y -ℤ pos 1)
searched y h =
    let low = h.0 in
    let high = h.1 in (
      (omega (arith, signed_arith), omega (arith, signed_arith)),
      (omega (arith, signed_arith), omega (arith, signed_arith)),
      (omega (arith, signed_arith), omega (arith, signed_arith)),
    )

-- a second in 64 bits, counted from the start of a year
pub from_start : (r t : ℤ) → (neg_ℤ (pos 450_000_000) ≤ℤ r) × (r ≤ℤ pos 450_000_000) → (neg_ℤ (pos 34_560_001_000_000) ≤ℤ t) ×
    (t ≤ℤ pos 34_560_001_000_000) → to_z w64 (of_z w64 (to_z w64 (of_z w64 t) -ℤ to_z w64 (of_z w64 (to_z w64 (of_z w64 r) *ℤ pos 86400)))) ≡ t -ℤ r *ℤ
    pos 86_400
from_start r t rs ts =
    let a = rs.0 in
    let b = rs.1 in
    let d = ts.0 in
    let e = ts.1 in
    let p : to_z w64 (of_z w64 (to_z w64 (of_z w64 r) *ℤ pos 86400)) ≡ r *ℤ pos 86_400 = omega (arith, signed_arith) in
    omega (arith, signed_arith)
