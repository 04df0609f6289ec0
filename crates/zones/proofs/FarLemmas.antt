-- Moments that are far apart in the year 2000, and so in each year.
use Rattle.std.proofs.Common.{◌≡◌, inl, inr, ℕ, ◌+◌, ◌-◌, ◌*◌, ◌/◌, ◌%◌, ◌<◌, true, false, ℤ, pos, ◌+ℤ◌, ◌-ℤ◌, ◌*ℤ◌, ◌≤ℤ◌, refl, ap, subst, ◌∙◌, arith}
use Rattle.std.proofs.lemmas.Int.{by_lt_z, clamps}
use borrow.Author.Differences.{up, down, le-true, le-false}
use Rattle.calendar_values.specs.Calendar.{year_start}
use Rattle.calendar_values.specs.SignedArith.{signed_arith, one_part}
use Rattle.calendar_values.specs.YearLemmas.{year_start-next, days_in_year_bounds}
use Rattle.zones.specs.declared.cycle.Cycle.{Cycle}
use Rattle.zones.specs.declared.moment.Moment.{Moment}
use Rattle.zones.specs.Cycles.{moment_year, is_first, local_second, cycle_second, low_offset, high_offset, RunsForward, Meets}
use Rattle.zones.proofs.CycleLemmas.{local_second_is, first_second, other_second, turns, second_shift, swap}
use Rattle.zones.proofs.TableLemmas.{le_yes, le_no}
use Rattle.zones.proofs.RuleLemmas.{rule_day_in, rule_day_near}

-- a second on the clocks lies in the same 32 days of each year
near_in : (moment : Moment) → (base : ℤ) ×
    ((y : ℤ) → ((year_start y *ℤ pos 86_400 +ℤ base) ≤ℤ local_second moment y) ×
    (local_second moment y ≤ℤ (year_start y *ℤ pos 86_400 +ℤ base +ℤ pos 2_678_400)))
near_in moment =
    let near = rule_day_near moment.day (rule_day_in moment.day moment.day_in) in (
      pos (near.0 * 86_400) +ℤ moment.time,
      λ y.
          let at = near.1 y in
          let low = at.0 in
          let high = at.1 in
          let is = local_second_is moment y in
          (omega (arith, signed_arith), omega (arith, signed_arith)),
    )

shift_bound : (c : Cycle) → (high_offset c -ℤ low_offset c) ≤ℤ pos 187_198
shift_bound c =
    let a = c.after_first.offset_in in
    let b = c.after_second.offset_in in
    omega (arith, signed_arith, clamps)

-- the years of two moments in a row
same_year : (m : ℤ) → is_first m ≡ true → moment_year (m +ℤ pos 1) ≡ moment_year m
same_year m e =
    let le = le-true m (pos 2 *ℤ moment_year m) e in
    omega (arith, signed_arith, one_part m, one_part (m +ℤ pos 1))

next_year : (m : ℤ) → is_first m ≡ false → moment_year (m +ℤ pos 1) ≡ moment_year m +ℤ pos 1
next_year m e =
    let lt = le-false m (pos 2 *ℤ moment_year m) e in
    omega (arith, signed_arith, one_part m, one_part (m +ℤ pos 1))

pub first_at : (c : Cycle) (m y : ℤ) → is_first m ≡ true → moment_year m ≡ y → cycle_second c m ≡ local_second c.first y -ℤ c.after_second.offset
first_at c m y t e = first_second c m t ∙ ap (λ (z : ℤ). local_second c.first z -ℤ c.after_second.offset) e

pub other_at : (c : Cycle) (m y : ℤ) → is_first m ≡ false → moment_year m ≡ y → cycle_second c m ≡ local_second c.second y -ℤ c.after_first.offset
other_at c m y t e = other_second c m t ∙ ap (λ (z : ℤ). local_second c.second z -ℤ c.after_first.offset) e

-- how far apart two moments of one year are, and a second of a year and the first of the next one, beside those of another year
apart_within : (c : Cycle) (x y : ℤ) → (local_second c.second x -ℤ local_second c.first x) ≤ℤ
    (local_second c.second y -ℤ local_second c.first y +ℤ pos 5_356_800)
apart_within c x y =
    let f = near_in c.first in
    let g = near_in c.second in
    let fx = (f.1 x).0 in
    let fy = (f.1 y).1 in
    let gx = (g.1 x).1 in
    let gy = (g.1 y).0 in
    omega (arith, signed_arith)

apart_across : (c : Cycle) (x y : ℤ) → (local_second c.first (x +ℤ pos 1) -ℤ local_second c.second x) ≤ℤ
    (local_second c.first (y +ℤ pos 1) -ℤ local_second c.second y +ℤ pos 5_443_200)
apart_across c x y =
    let f = near_in c.first in
    let g = near_in c.second in
    let fx = (f.1 (x +ℤ pos 1)).1 in
    let fy = (f.1 (y +ℤ pos 1)).0 in
    let gx = (g.1 x).0 in
    let gy = (g.1 y).1 in
    let sx = year_start-next x in
    let sy = year_start-next y in
    let dx = (days_in_year_bounds x).1 in
    let dy = (days_in_year_bounds y).0 in
    omega (arith, signed_arith)

-- so the moments of each year are
pub far_in_all : (c : Cycle) → pos 6_048_000 ≤ℤ (cycle_second c (pos 4001) -ℤ cycle_second c (pos 4000)) → pos 6_048_000 ≤ℤ
    (cycle_second c (pos 4002) -ℤ cycle_second c (pos 4001)) → RunsForward c
far_in_all c one two m =
    let shift = shift_bound c in
    let y0 : moment_year (pos 4000) ≡ pos 2000 = omega (arith, signed_arith, one_part (pos 4000)) in
    let y1 : moment_year (pos 4001) ≡ pos 2000 = omega (arith, signed_arith, one_part (pos 4001)) in
    let y2 : moment_year (pos 4002) ≡ pos 2000 +ℤ pos 1 = omega (arith, signed_arith, one_part (pos 4002)) in
    let a0 = first_at c (pos 4000) (pos 2000) (le_yes (pos 4000) (pos 2 *ℤ moment_year (pos 4000)) (omega (arith, signed_arith))) y0 in
    let a1 = other_at c (pos 4001) (pos 2000) (le_no (pos 4001) (pos 2 *ℤ moment_year (pos 4001)) (omega (arith, signed_arith))) y1 in
    let a2 = first_at c (pos 4002) (pos 2000 +ℤ pos 1) (le_yes (pos 4002) (pos 2 *ℤ moment_year (pos 4002)) (omega (arith, signed_arith))) y2 in
    let y = moment_year m in
    elim (turns m) [
      | inl t ↦
          let s0 = first_at c m y t.0 refl in
          let s1 = other_at c (m +ℤ pos 1) y t.1 (same_year m t.0) in
          let near = apart_within c (pos 2000) y in
          record { rises = omega (arith, signed_arith); apart = omega (arith, signed_arith) }
      | inr t ↦
          let s0 = other_at c m y t.0 refl in
          let s1 = first_at c (m +ℤ pos 1) (y +ℤ pos 1) t.1 (next_year m t.0) in
          let near = apart_across c (pos 2000) y in
          record { rises = omega (arith, signed_arith); apart = omega (arith, signed_arith) }
    ]

-- 400 moments of one number decide whether such moments meet the next one in all years
meets_later : (c : Cycle) (m : ℤ) (k : ℕ) → Meets c m → Meets c (m +ℤ pos (800 * k))
meets_later c m k h =
    let one = second_shift c m k in
    let two = ap (cycle_second c) (swap m k) ∙ second_shift c (m +ℤ pos 1) k in
    omega (arith, signed_arith)

meets_earlier : (c : Cycle) (m : ℤ) (k : ℕ) → Meets c (m +ℤ pos (800 * k)) → Meets c m
meets_earlier c m k h =
    let one = second_shift c m k in
    let two = ap (cycle_second c) (swap m k) ∙ second_shift c (m +ℤ pos 1) k in
    omega (arith, signed_arith)

pub all_meet : (c : Cycle) (number : ℤ) → ((k : ℕ) → k < 400 → Meets c (pos (4000 + 2 * k) +ℤ number)) → (y : ℤ) → Meets c (pos 2 *ℤ y +ℤ number)
all_meet c number h y = by_lt_z y (pos 2000)
    (λ lt.
    let b = 2000 + down y - up y in
    let k = (b + 399) / 400 in
    let j = 400 * k - b in
    let below : j < 400 = omega (arith, signed_arith) in
    let same : pos (4000 + 2 * j) +ℤ number ≡ pos 2 *ℤ y +ℤ number +ℤ pos (800 * k) = omega (arith, signed_arith) in
    meets_earlier c (pos 2 *ℤ y +ℤ number) k (subst (Meets c) same (h j below)))
    (λ ge.
    let a = up y - down y - 2000 in
    let k = a / 400 in
    let j = a % 400 in
    let below : j < 400 = omega (arith, signed_arith) in
    let same : pos (4000 + 2 * j) +ℤ number +ℤ pos (800 * k) ≡ pos 2 *ℤ y +ℤ number = omega (arith, signed_arith) in
    subst (Meets c) same (meets_later c (pos (4000 + 2 * j) +ℤ number) k (h j below)))
