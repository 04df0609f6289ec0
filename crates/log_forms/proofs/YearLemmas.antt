-- The year of a stamp without one is the nearest.
use Rattle.std.proofs.Common.{◌≡◌, ℕ, ◌+◌, ◌≤◌, ◌<◌, refl, arith, ℤ, pos, negsuc, ◌+ℤ◌, ◌-ℤ◌, ◌≤ℤ◌, ◌<ℤ◌}
use Rattle.std.proofs.Common.{unsigned_abs}
use Rattle.calendar_values.specs.Range.{IsYear}
use Rattle.calendar_values.specs.SignedArith.{signed_arith}
use Rattle.log_forms.specs.Laws.{IsMonthNumber, IsNearestYear, months_after, months_apart}

-- the size of a number is that number or its negative, whichever is greater
size_at_most : (a : ℤ) (n : ℕ) → a ≤ℤ pos n → (pos 0 -ℤ a) ≤ℤ pos n → unsigned_abs a ≤ n
size_at_most (pos k) n high low = omega (arith, signed_arith, high)
size_at_most (negsuc k) n high low = omega (arith, signed_arith, low)

size_at_least : (a : ℤ) → (a ≤ℤ pos (unsigned_abs a)) × ((pos 0 -ℤ a) ≤ℤ pos (unsigned_abs a))
size_at_least (pos k) = (omega (arith, signed_arith), omega (arith, signed_arith))
size_at_least (negsuc k) = (omega (arith, signed_arith), omega (arith, signed_arith))

-- a year in which it is less than six months away, and so in a year that is as near
near-same : (year y z : ℤ) (before month : ℕ) → months_apart year before y month ≤ months_apart year before z month
    → months_apart year before z month < 6 → y ≡ z
near-same year y z before month nearer near =
    let one = size_at_least (months_after year before y month) in
    let other = size_at_least (months_after year before z month) in
    omega (arith, signed_arith, nearer, near, one.0, one.1, other.0, other.1)

-- the nearest year
nearest-is : (year y : ℤ) (before month : ℕ) → IsYear y
    → ((z : ℤ) → IsYear z → months_apart year before y month ≤ months_apart year before z month)
    → (months_apart year before year month ≤ months_apart year before y month → y ≡ year) → IsNearestYear year before month y
nearest-is year y before month here nearest stays = record {
  in_range = here;
  nearest = nearest;
  own = λ z there near. near-same year y z before month (nearest z there) near;
  stays = stays;
}

-- more than six months earlier
pub next-nearest : (year : ℤ) (before month : ℕ) → IsYear year → IsMonthNumber before → IsMonthNumber month → month + 6 < before → year <ℤ pos 999_999
    → IsNearestYear year before month (year +ℤ pos 1)
next-nearest year before month here h m early room = nearest-is year (year +ℤ pos 1) before month
    (omega (arith, signed_arith, here.0), omega (arith, signed_arith, room))
    (λ z there.
    let far = size_at_least (months_after year before z month) in
    size_at_most (months_after year before (year +ℤ pos 1) month) (months_apart year before z month)
    (omega (arith, signed_arith, h.1, m.0, early, far.0, far.1))
    (omega (arith, signed_arith, h.1, m.0, early, far.0, far.1)))
    (λ near.
    let close = size_at_most (months_after year before (year +ℤ pos 1) month) 5
    (omega (arith, signed_arith, h.1, m.0, early)) (omega (arith, signed_arith, h.1, m.0, early)) in
    let far = size_at_least (months_after year before year month) in
    omega (arith, signed_arith, early, near, close, far.1))

-- more than six months later
pub last-nearest : (year : ℤ) (before month : ℕ) → IsYear year → IsMonthNumber before → IsMonthNumber month → before + 6 < month → negsuc 999_998 <ℤ year
    → IsNearestYear year before month (year -ℤ pos 1)
last-nearest year before month here h m late room = nearest-is year (year -ℤ pos 1) before month
    (omega (arith, signed_arith, room), omega (arith, signed_arith, here.1))
    (λ z there.
    let far = size_at_least (months_after year before z month) in
    size_at_most (months_after year before (year -ℤ pos 1) month) (months_apart year before z month)
    (omega (arith, signed_arith, h.0, m.1, late, far.0, far.1))
    (omega (arith, signed_arith, h.0, m.1, late, far.0, far.1)))
    (λ near.
    let close = size_at_most (months_after year before (year -ℤ pos 1) month) 5
    (omega (arith, signed_arith, h.0, m.1, late)) (omega (arith, signed_arith, h.0, m.1, late)) in
    let far = size_at_least (months_after year before year month) in
    omega (arith, signed_arith, late, near, close, far.0))

-- at most six months away, or at an end of the range
pub same-nearest : (year : ℤ) (before month : ℕ) → IsYear year → month ≤ before + 6 → before ≤ month + 6
    → IsNearestYear year before month year
same-nearest year before month here early late = nearest-is year year before month
    here (λ z there.
    let far = size_at_least (months_after year before z month) in
    size_at_most (months_after year before year month) (months_apart year before z month)
    (omega (arith, signed_arith, early, late, far.0, far.1))
    (omega (arith, signed_arith, early, late, far.0, far.1)))
    (λ near. refl)

pub at_last-nearest : (year : ℤ) (before month : ℕ) → IsYear year → month + 6 < before → pos 999_999 ≤ℤ year
    → IsNearestYear year before month year
at_last-nearest year before month here early end = nearest-is year year before month
    here (λ z there.
    let far = size_at_least (months_after year before z month) in
    size_at_most (months_after year before year month) (months_apart year before z month)
    (omega (arith, signed_arith, early, end, there.1, far.0, far.1))
    (omega (arith, signed_arith, early, end, there.1, far.0, far.1)))
    (λ near. refl)

pub at_first-nearest : (year : ℤ) (before month : ℕ) → IsYear year → before + 6 < month → year ≤ℤ negsuc 999_998
    → IsNearestYear year before month year
at_first-nearest year before month here late end = nearest-is year year before month
    here (λ z there.
    let far = size_at_least (months_after year before z month) in
    size_at_most (months_after year before year month) (months_apart year before z month)
    (omega (arith, signed_arith, late, end, there.0, far.0, far.1))
    (omega (arith, signed_arith, late, end, there.0, far.0, far.1)))
    (λ near. refl)
