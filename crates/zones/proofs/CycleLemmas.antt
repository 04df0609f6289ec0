-- Moments of cycles.
use Rattle.std.proofs.Common.{◌≡◌, ◌⊎◌, inl, inr, ℕ, ◌+◌, ◌-◌, ◌*◌, ◌/◌, ◌%◌, ◌<◌, true, false, Bool, ℤ, pos, neg_ℤ, ◌+ℤ◌, ◌-ℤ◌, ◌*ℤ◌, ◌≤ℤ◌, ◌<ℤ◌}
use Rattle.std.proofs.Common.{refl, ap, subst, ◌∙◌, arith}
use Rattle.std.proofs.lemmas.Int.{clamps, by_lt_z}
use Rattle.std.specs.Int.{int_min, int_max}
use borrow.Author.Differences.{up, down, le-true, le-false}
use Rattle.calendar_values.specs.Calendar.{year_start}
use Rattle.calendar_values.specs.SignedArith.{signed_arith, one_part}
use Rattle.calendar_values.specs.YearLemmas.{year_start-mono, year_start-closed}
use Rattle.zones.specs.declared.moment.Moment.{Moment}
use Rattle.zones.specs.declared.cycle.Cycle.{Cycle}
use Rattle.zones.specs.Rules.{rule_day}
use Rattle.zones.specs.Cycles.{moment_year, is_first, local_second, cycle_type, cycle_offset, cycle_second, low_offset, high_offset, IsApart, RunsForward}
use Rattle.zones.specs.Cycles.{moment_at, Always, second_at, offset_to}
use Rattle.zones.specs.Clocks.{IsPlace, Runs, start, end}
use Rattle.zones.specs.declared.time_type.TimeType.{TimeType}
use Rattle.zones.proofs.RuleLemmas.{rule_day_bounds, rule_day_in, rule_day-shift}
use Rattle.zones.proofs.TableLemmas.{le_yes, le_no}

pub local_second_is : (moment : Moment) (y : ℤ) → local_second moment y ≡ rule_day moment.day y *ℤ pos 86_400 +ℤ moment.time
unfolding local_second
local_second_is moment y = refl

pub first_second : (c : Cycle) (m : ℤ) → is_first m ≡ true → cycle_second c m ≡ local_second c.first (moment_year m) -ℤ c.after_second.offset
unfolding cycle_second
first_second c m e = rw e refl

pub other_second : (c : Cycle) (m : ℤ) → is_first m ≡ false → cycle_second c m ≡ local_second c.second (moment_year m) -ℤ c.after_first.offset
unfolding cycle_second
other_second c m e = rw e refl

pub first_type : (c : Cycle) (m : ℤ) → is_first m ≡ true → cycle_type c m ≡ c.after_second
unfolding cycle_type
first_type c m e = rw e refl

pub other_type : (c : Cycle) (m : ℤ) → is_first m ≡ false → cycle_type c m ≡ c.after_first
unfolding cycle_type
other_type c m e = rw e refl

pub first_offset : (c : Cycle) (m : ℤ) → is_first m ≡ true → cycle_offset c m ≡ c.after_second.offset
first_offset c m e = ap (λ (t : TimeType). t.offset) (first_type c m e)

pub other_offset : (c : Cycle) (m : ℤ) → is_first m ≡ false → cycle_offset c m ≡ c.after_first.offset
other_offset c m e = ap (λ (t : TimeType). t.offset) (other_type c m e)

-- a second on the clocks is near its year
pub local_bounds : (moment : Moment) (y : ℤ) → ((year_start y *ℤ pos 86_400 -ℤ pos 604_799) ≤ℤ local_second moment y) ×
    (local_second moment y ≤ℤ (year_start y *ℤ pos 86_400 +ℤ pos 32_140_799))
local_bounds moment y =
    let d = rule_day_bounds moment.day y (rule_day_in moment.day moment.day_in) in
    let low = d.0 in
    let high = d.1 in
    let t = moment.time_in in
    let is = local_second_is moment y in
    (omega (arith, signed_arith), omega (arith, signed_arith))

-- and so is a moment
pub second_bounds : (c : Cycle) (m : ℤ) → ((year_start (moment_year m) *ℤ pos 86_400 -ℤ pos 698_398) ≤ℤ cycle_second c m) ×
    (cycle_second c m ≤ℤ (year_start (moment_year m) *ℤ pos 86_400 +ℤ pos 32_234_398))
second_bounds c m = choose (is_first m) refl where
  choose : (b : Bool) → is_first m ≡ b → ((year_start (moment_year m) *ℤ pos 86_400 -ℤ pos 698_398) ≤ℤ cycle_second c m) ×
      (cycle_second c m ≤ℤ (year_start (moment_year m) *ℤ pos 86_400 +ℤ pos 32_234_398))
  choose true e =
      let is = first_second c m e in
      let b = local_bounds c.first (moment_year m) in
      let low = b.0 in
      let high = b.1 in
      let o = c.after_second.offset_in in
      (omega (arith, signed_arith), omega (arith, signed_arith))
  choose false e =
      let is = other_second c m e in
      let b = local_bounds c.second (moment_year m) in
      let low = b.0 in
      let high = b.1 in
      let o = c.after_first.offset_in in
      (omega (arith, signed_arith), omega (arith, signed_arith))

year_low : year_start (neg_ℤ (pos 1_195_000)) ≤ℤ neg_ℤ (pos 430_000_000)
year_low = omega (arith, signed_arith, year_start-closed 5000 805_000 (neg_ℤ (pos 1_195_000)) refl)

year_high : pos 430_000_000 ≤ℤ year_start (pos 1_195_000)
year_high = omega (arith, signed_arith, year_start-closed 0 1_195_000 (pos 1_195_000) refl)

-- the moments of far years lie outside all seconds that are asked for
pub far_back : (c : Cycle) (m : ℤ) → m ≤ℤ neg_ℤ (pos 2_390_000) → cycle_second c m <ℤ neg_ℤ (pos 34_560_001_000_000)
far_back c m h =
    let y : moment_year m ≤ℤ neg_ℤ (pos 1_195_000) = omega (arith, signed_arith, one_part m) in
    let s = year_start-mono (moment_year m) (neg_ℤ (pos 1_195_000)) y in
    let high = (second_bounds c m).1 in
    let l = year_low in
    omega (arith, signed_arith)

pub far_on : (c : Cycle) (m : ℤ) → pos 2_390_000 ≤ℤ m → pos 34_560_001_000_000 <ℤ cycle_second c m
far_on c m h =
    let y : pos 1_195_000 ≤ℤ moment_year m = omega (arith, signed_arith, one_part m) in
    let s = year_start-mono (pos 1_195_000) (moment_year m) y in
    let low = (second_bounds c m).0 in
    let l = year_high in
    omega (arith, signed_arith)

year_shift : (m : ℤ) (k : ℕ) → moment_year (m +ℤ pos (800 * k)) ≡ moment_year m +ℤ pos (400 * k)
year_shift m k = omega (arith, signed_arith, one_part m, one_part (m +ℤ pos (800 * k)))

pub first_shift : (m : ℤ) (k : ℕ) → is_first m ≡ true → is_first (m +ℤ pos (800 * k)) ≡ true
first_shift m k e =
    let y = year_shift m k in
    let under = le-true m (pos 2 *ℤ moment_year m) e in
    le_yes (m +ℤ pos (800 * k)) (pos 2 *ℤ moment_year (m +ℤ pos (800 * k))) (omega (arith, signed_arith))

pub other_shift : (m : ℤ) (k : ℕ) → is_first m ≡ false → is_first (m +ℤ pos (800 * k)) ≡ false
other_shift m k e =
    let y = year_shift m k in
    let over = le-false m (pos 2 *ℤ moment_year m) e in
    le_no (m +ℤ pos (800 * k)) (pos 2 *ℤ moment_year (m +ℤ pos (800 * k))) (omega (arith, signed_arith))

local_shift : (moment : Moment) (y : ℤ) (k : ℕ) → local_second moment (y +ℤ pos (400 * k)) ≡ local_second moment y +ℤ pos (12_622_780_800 * k)
local_shift moment y k =
    let one = local_second_is moment y in
    let two = local_second_is moment (y +ℤ pos (400 * k)) in
    let d = rule_day-shift moment.day y k in
    omega (arith, signed_arith)

-- 800 moments later the calendar is the same
pub second_shift : (c : Cycle) (m : ℤ) (k : ℕ) → cycle_second c (m +ℤ pos (800 * k)) ≡ cycle_second c m +ℤ pos (12_622_780_800 * k)
second_shift c m k = choose (is_first m) refl where
  choose : (b : Bool) → is_first m ≡ b → cycle_second c (m +ℤ pos (800 * k)) ≡ cycle_second c m +ℤ pos (12_622_780_800 * k)
  choose true e =
      let one = first_second c m e in
      let two = first_second c (m +ℤ pos (800 * k)) (first_shift m k e) in
      let y = ap (local_second c.first) (year_shift m k) in
      let l = local_shift c.first (moment_year m) k in
      omega (arith, signed_arith)
  choose false e =
      let one = other_second c m e in
      let two = other_second c (m +ℤ pos (800 * k)) (other_shift m k e) in
      let y = ap (local_second c.second) (year_shift m k) in
      let l = local_shift c.second (moment_year m) k in
      omega (arith, signed_arith)

pub swap : (m : ℤ) (k : ℕ) → m +ℤ pos (800 * k) +ℤ pos 1 ≡ m +ℤ pos 1 +ℤ pos (800 * k)
swap m k = omega (arith, signed_arith)

pub apart_later : (c : Cycle) (m : ℤ) (k : ℕ) → IsApart c m → IsApart c (m +ℤ pos (800 * k))
apart_later c m k h =
    let one = second_shift c m k in
    let two = ap (cycle_second c) (swap m k) ∙ second_shift c (m +ℤ pos 1) k in
    let r = h.rises in
    let a = h.apart in
    record { rises = omega (arith, signed_arith); apart = omega (arith, signed_arith) }

pub apart_earlier : (c : Cycle) (m : ℤ) (k : ℕ) → IsApart c (m +ℤ pos (800 * k)) → IsApart c m
apart_earlier c m k h =
    let one = second_shift c m k in
    let two = ap (cycle_second c) (swap m k) ∙ second_shift c (m +ℤ pos 1) k in
    let r = h.rises in
    let a = h.apart in
    record { rises = omega (arith, signed_arith); apart = omega (arith, signed_arith) }

-- 800 moments in a row decide it for all
pub all_apart : (c : Cycle) → ((k : ℕ) → k < 800 → IsApart c (pos (4000 + k))) → RunsForward c
all_apart c h m = by_lt_z m (pos 4000)
    (λ lt.
    let b = 4000 + down m - up m in
    let k = (b + 799) / 800 in
    let j = 800 * k - b in
    let below : j < 800 = omega (arith, signed_arith) in
    let same : pos (4000 + j) ≡ m +ℤ pos (800 * k) = omega (arith, signed_arith) in
    apart_earlier c m k (subst (IsApart c) same (h j below)))
    (λ ge.
    let a = up m - down m - 4000 in
    let k = a / 800 in
    let j = a % 800 in
    let below : j < 800 = omega (arith, signed_arith) in
    let same : pos (4000 + j) +ℤ pos (800 * k) ≡ m = omega (arith, signed_arith) in
    subst (IsApart c) same (apart_later c (pos (4000 + j)) k (h j below)))

-- of two moments in a row one is the first of its year
pub turns : (m : ℤ) → ((is_first m ≡ true) × (is_first (m +ℤ pos 1) ≡ false)) ⊎ ((is_first m ≡ false) × (is_first (m +ℤ pos 1) ≡ true))
turns m = by_lt_z (pos 2 *ℤ moment_year m) m
    (λ lt. inr (
      le_no m (pos 2 *ℤ moment_year m) lt,
      le_yes (m +ℤ pos 1) (pos 2 *ℤ moment_year (m +ℤ pos 1))
          (omega (arith, signed_arith, one_part m, one_part (m +ℤ pos 1))),
    ))
    (λ ge. inl (
      le_yes m (pos 2 *ℤ moment_year m) ge,
      le_no (m +ℤ pos 1) (pos 2 *ℤ moment_year (m +ℤ pos 1))
          (omega (arith, signed_arith, one_part m, one_part (m +ℤ pos 1))),
    ))

-- so that the offsets before it and after it are the two offsets
pub both_offsets : (c : Cycle) (m : ℤ) → ((cycle_offset c m ≡ c.after_second.offset) × (cycle_offset c (m +ℤ pos 1) ≡ c.after_first.offset)) ⊎
    ((cycle_offset c m ≡ c.after_first.offset) × (cycle_offset c (m +ℤ pos 1) ≡ c.after_second.offset))
both_offsets c m = elim (turns m) [
  | inl t ↦ inl (first_offset c m t.0, other_offset c (m +ℤ pos 1) t.1)
  | inr t ↦ inr (other_offset c m t.0, first_offset c (m +ℤ pos 1) t.1)
]

pub lows : (c : Cycle) (m : ℤ) → int_min (cycle_offset c m) (cycle_offset c (m +ℤ pos 1)) ≡ low_offset c
lows c m = elim (both_offsets c m) [
  | inl t ↦ (let a = t.0 in let b = t.1 in omega (arith, signed_arith, clamps))
  | inr t ↦ (let a = t.0 in let b = t.1 in omega (arith, signed_arith, clamps))
]

pub highs : (c : Cycle) (m : ℤ) → int_max (cycle_offset c m) (cycle_offset c (m +ℤ pos 1)) ≡ high_offset c
highs c m = elim (both_offsets c m) [
  | inl t ↦ (let a = t.0 in let b = t.1 in omega (arith, signed_arith, clamps))
  | inr t ↦ (let a = t.0 in let b = t.1 in omega (arith, signed_arith, clamps))
]

pub counted_next : (k : ℕ) → moment_at (k + 1) ≡ moment_at k +ℤ pos 1
counted_next k = omega (arith, signed_arith)

pub start_is : (c : Cycle) (k : ℕ) → start (second_at c) (offset_to c) k ≡ cycle_second c (moment_at k) +ℤ low_offset c
start_is c k =
    let next = ap (cycle_offset c) (counted_next k) in
    let low = ap (int_min (cycle_offset c (moment_at k))) next ∙ lows c (moment_at k) in
    omega (arith, signed_arith)

pub end_is : (c : Cycle) (k : ℕ) → end (second_at c) (offset_to c) k ≡ cycle_second c (moment_at k) +ℤ high_offset c
end_is c k =
    let next = ap (cycle_offset c) (counted_next k) in
    let high = ap (int_max (cycle_offset c (moment_at k))) next ∙ highs c (moment_at k) in
    omega (arith, signed_arith)

pub cycle_runs : (c : Cycle) → RunsForward c → Runs Always (second_at c) (offset_to c)
cycle_runs c f = record {
  down = λ k h. tt;
  rises = λ k h.
      let r = (f (moment_at k)).rises in
      let next = ap (cycle_second c) (counted_next k) in
      omega (arith, signed_arith);
  apart = λ k h.
      let a = (f (moment_at k)).apart in
      let next = ap (cycle_second c) (counted_next k) in
      let s = start_is c (k + 1) in
      let e = end_is c k in
      omega (arith, signed_arith);
}

-- the place of a moment
pub place_is : (c : Cycle) (m t : ℤ) (n : ℕ) → moment_at n ≡ m → cycle_second c m ≤ℤ t → t <ℤ cycle_second c (m +ℤ pos 1) → IsPlace Always (second_at c) t
    (n + 1)
place_is c m t n e begun ahead =
    let here = ap (cycle_second c) e in
    let next = ap (cycle_second c) (counted_next n ∙ ap (λ (z : ℤ). z +ℤ pos 1) e) in
    record {
      reached = λ j h.
          let same : n ≡ j = omega arith in
          let now : second_at c n ≤ℤ t = omega (arith, signed_arith) in
          (tt, rw same at now);
      ahead = λ h. omega (arith, signed_arith);
    }

pub start_place_is : (c : Cycle) (m local : ℤ) (n : ℕ) → moment_at n ≡ m → (cycle_second c m +ℤ low_offset c) ≤ℤ local → local <ℤ
    (cycle_second c (m +ℤ pos 1) +ℤ low_offset c) → IsPlace Always (start (second_at c) (offset_to c)) local (n + 1)
start_place_is c m local n e begun ahead =
    let here = ap (cycle_second c) e in
    let next = ap (cycle_second c) (counted_next n ∙ ap (λ (z : ℤ). z +ℤ pos 1) e) in
    let s = start_is c n in
    let s2 = start_is c (n + 1) in
    record {
      reached = λ j h.
          let same : n ≡ j = omega arith in
          let now : start (second_at c) (offset_to c) n ≤ℤ local = omega (arith, signed_arith) in
          (tt, rw same at now);
      ahead = λ h. omega (arith, signed_arith);
    }
