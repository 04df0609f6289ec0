-- What one lane counts is the second of its date-time.
use Rattle.std.proofs.Common.{◌≡◌, ℕ, zero, suc, ◌+◌, ◌-◌, ◌*◌, ◌/◌, ◌%◌, ◌^◌, ◌<◌, ◌≤◌, List, [], ◌∷◌, ◌∙◌, refl, sym, ap, arith, inl, inr, Bool}
use Rattle.std.proofs.Common.{true, false, ◌&&◌, ◌==◌, cond, ltb}
use Rattle.std.proofs.Common.{ℤ, pos, negsuc, neg_ℤ, ◌+ℤ◌, ◌-ℤ◌, ◌*ℤ◌, ◌≤ℤ◌, w32, w64, to_z, of_z}
use Rattle.std.proofs.Math.Facts.{to_z-neg}
use Rattle.std.proofs.lemmas.Bool.{eqb-true, cases_order}
use Rattle.std.proofs.lemmas.Bool.Decides.{nat_tests}
use Rattle.std.proofs.lemmas.Int.{ints, to_z_pos}
use Rattle.calendar_values.specs.SignedArith.{signed_arith}
use Rattle.calendar_values.specs.Calendar.{is_leap_year, year_start, days_before_month, days_in_months, days_in_month, day_of_calendar_date}
use Rattle.calendar_values.specs.YearLemmas.{leap_day, days_from_0, days_from_0-suc, year_start-closed}
use Rattle.calendar_values.specs.CalendarDateLemmas.{days_in_month_bounds}
use Rattle.calendar_values.specs.Offsets.{IsOffset}
use Rattle.lanes.specs.Seconds.{IsInside, second_of, clock_second}
use Rattle.lanes.specs.MarchYears.{month_before_march, march_year_of, days_to_march, days_from_march}
use Rattle.lanes.specs.declared.date_times.DateTime.{DateTime}
use Rattle.lanes.proofs.PartLemmas.{shifted_year, shifted_year-is, shifted_offset, shifted_offset-is, is_leap_year-shifted}

-- the days of the year up to a month, from 1 January and from 1 March

abbrev agrees : Bool → ℕ → Bool
agrees b m = days_from_march m + 59 + cond b 1 0 == days_before_month b m + cond (ltb m 3) (365 + cond b 1 0) 0

abbrev agrees_below : Bool → ℕ → Bool
agrees_below b zero = true
agrees_below b (suc n) = agrees_below b n && agrees b (suc n)

agrees-all : (b : Bool) → agrees_below b 12 ≡ true
unfolding days_in_months
agrees-all true = refl
agrees-all false = refl

and-parts : (t u : Bool) → t && u ≡ true → (t ≡ true) × (u ≡ true)
and-parts true u e = (refl, e)
and-parts false u e = grind (arith, nat_tests)

agrees-at : (b : Bool) (n m : ℕ) → agrees_below b n ≡ true → 1 ≤ m → m ≤ n →
    days_from_march m + 59 + cond b 1 0 ≡ days_before_month b m + cond (ltb m 3) (365 + cond b 1 0) 0
agrees-at b zero m t low high = absurd (omega arith)
agrees-at b (suc n) m t low high = elim (cases_order m (suc n)) [
  | inl e ↦ rw e (eqb-true _ _ (and-parts _ _ t).1)
  | inr (inl lt) ↦ agrees-at b n m (and-parts _ _ t).0 low (omega arith)
  | inr (inr gt) ↦ absurd (omega arith)
]

-- the days up to 1 March and to 1 January

before_march : (n : ℕ) → 1 ≤ n → days_to_march (n - 1) + 366 ≡ days_from_0 n
before_march n h = omega arith

from_march : (n : ℕ) → days_to_march n + 366 ≡ days_from_0 (suc n)
from_march n = omega arith

days-choice : (n m : ℕ) → 1 ≤ n → n < 2 ^ 32 → 1 ≤ m → m ≤ 12 → (t : Bool) → ltb m 3 ≡ t →
    days_to_march (march_year_of n m) + days_from_march m + 60 ≡ days_from_0 n + days_before_month (is_leap_year (pos n)) m
days-choice n m low high first last true t =
    let b = is_leap_year (pos n) in
    let table = agrees-at b 12 m (agrees-all b) first last in
    let early : cond (ltb m 3) (365 + cond {A = ℕ} b 1 0) 0 ≡ 365 + cond b 1 0 = rw t refl in
    let before : march_year_of n m ≡ n - 1 = rw t (omega arith) in
    rw before (omega (arith, before_march n low, table, early))
days-choice n m low high first last false t =
    let b = is_leap_year (pos n) in
    let table = agrees-at b 12 m (agrees-all b) first last in
    let late : cond (ltb m 3) (365 + cond {A = ℕ} b 1 0) 0 ≡ 0 = rw t refl in
    let same : march_year_of n m ≡ n = rw t (omega arith) in
    let next = days_from_0-suc n in
    rw same (omega (arith, from_march n, next, table, late))

days-counted : (n m : ℕ) → 1 ≤ n → n < 2 ^ 32 → 1 ≤ m → m ≤ 12 →
    days_to_march (march_year_of n m) + days_from_march m + 60 ≡ days_from_0 n + days_before_month (is_leap_year (pos n)) m
days-counted n m low high first last = days-choice n m low high first last (ltb m 3) refl

pub march_year-bound : (at : DateTime) → IsInside at → march_year_of (shifted_year at.year) at.month < 2_000_000
march_year-bound at h =
    let years = shifted_year-is at.year h.year_first h.year_last in
    let low : 2 ≤ shifted_year at.year = omega (arith, signed_arith, h.year_first) in
    let high : shifted_year at.year ≤ 1_999_998 = omega (arith, signed_arith, h.year_last) in
    bound (shifted_year at.year) (ltb at.month 3) low high
  where
    bound : (n : ℕ) (t : Bool) → 2 ≤ n → n ≤ 1_999_998 → (n + (2 ^ 32 - cond {A = ℕ} t 1 0)) % 2 ^ 32 < 2_000_000
    bound n true l k = omega arith
    bound n false l k = omega arith

-- the day of a lane, counted from 1 March of the year -1000000, less a day
abbrev day_count : DateTime → ℕ
day_count at = days_to_march (march_year_of (shifted_year at.year) at.month) + days_from_march at.month + at.day

day_count-is : (at : DateTime) → IsInside at → pos (day_count at) ≡ day_of_calendar_date at.year at.month at.day +ℤ pos 365_961_969
day_count-is at h =
    let n = shifted_year at.year in
    let years = shifted_year-is at.year h.year_first h.year_last in
    let low : 2 ≤ n = omega (arith, signed_arith, h.year_first) in
    let high : n ≤ 1_999_998 = omega (arith, signed_arith, h.year_last) in
    let start = year_start-closed 2500 n at.year years in
    let counted = days-counted n at.month (omega arith) (omega arith) h.date.month_first h.date.month_last in
    rw (is_leap_year-shifted at.year n years) (omega (arith, signed_arith, start, counted))

days_from_march-bound : (m : ℕ) (t : Bool) → m ≤ 12 → ltb m 3 ≡ t → days_from_march m ≤ 337
days_from_march-bound m true last t = let early : m < 3 = grind (arith, nat_tests) in rw t (omega arith)
days_from_march-bound m false last t = rw t (omega arith)

days_to_march-bound : (y : ℕ) → y < 2_000_000 → days_to_march y < 800_000_000
days_to_march-bound y h = omega arith

day_count-bound : (at : DateTime) → IsInside at → day_count at < 900_000_000
day_count-bound at h =
    let march = days_to_march-bound (march_year_of (shifted_year at.year) at.month) (march_year-bound at h) in
    let month = days_from_march-bound at.month (ltb at.month 3) h.date.month_last refl in
    let day : at.day ≤ 31 = omega (arith, h.date.day_last, days_in_month_bounds (is_leap_year at.year) at.month) in
    sum (days_to_march (march_year_of (shifted_year at.year) at.month)) (days_from_march at.month) at.day march month day
  where
    sum : (a b c : ℕ) → a < 800_000_000 → b ≤ 337 → c ≤ 31 → a + b + c < 900_000_000
    sum a b c h k l = omega arith

-- what a lane computes

sum-lane : (a b c : ℕ) → a + b + c < 900_000_000 → ((a + b) % 2 ^ 32 + c) % 2 ^ 32 ≡ a + b + c
sum-lane a b c h = omega arith

clock-lane : (h i s : ℕ) → h ≤ 23 → i ≤ 59 → s ≤ 59 →
    (((h * 60 % 2 ^ 32 + i) % 2 ^ 32 * 60 % 2 ^ 32 + s) % 2 ^ 32 ≡ clock_second h i s) × (clock_second h i s < 86_400)
clock-lane h i s a b e = (omega arith, omega arith)

bits-bound : (o : ℤ) → IsOffset o → of_z w32 o < 2 ^ 32
bits-bound (pos n) h = let below : n ≤ 93_599 = omega (arith, signed_arith, h.1) in omega arith
bits-bound (negsuc n) h = omega arith

offset-lane : (c bits : ℕ) → c < 86_400 → bits < 2 ^ 32 → (bits + 93_599) % 2 ^ 32 ≤ 187_198 →
    ((c + 93_599) % 2 ^ 32 + (2 ^ 32 - bits)) % 2 ^ 32 + (bits + 93_599) % 2 ^ 32 ≡ c + 187_198
offset-lane c bits h k l = omega arith

sum-wide : (d s : ℕ) → d < 900_000_000 → s < 2 ^ 32 → ((d * 86_400 % 2 ^ 64 + s) % 2 ^ 64 ≡ d * 86_400 + s) × (d * 86_400 + s < 2 ^ 62)
sum-wide d s h k = (omega arith, omega arith)

-- the bits of a second, counted from 1970
second-bits : (x : ℕ) → x < 2 ^ 62 → to_z w64 ((x + (2 ^ 64 - 31_619_114_215_199)) % 2 ^ 64) ≡ pos x -ℤ pos 31_619_114_215_199
second-bits x h = elim (cases_order x 31_619_114_215_199) [
  | inl e ↦ rw e refl
  | inr (inl lt) ↦ (
      let bits : (x + (2 ^ 64 - 31_619_114_215_199)) % 2 ^ 64 ≡ 2 ^ 64 - suc (31_619_114_215_198 - x) = omega arith in
      let second : negsuc (31_619_114_215_198 - x) ≡ pos x -ℤ pos 31_619_114_215_199 = omega (arith, ints) in
      rw bits (to_z-neg w64 (31_619_114_215_198 - x) (omega arith) ∙ second)
      )
  | inr (inr gt) ↦ (
      let bits : (x + (2 ^ 64 - 31_619_114_215_199)) % 2 ^ 64 ≡ x - 31_619_114_215_199 = omega arith in
      let second : pos (x - 31_619_114_215_199) ≡ pos x -ℤ pos 31_619_114_215_199 = omega (arith, ints) in
      rw bits (to_z_pos w64 (x - 31_619_114_215_199) (omega arith) ∙ second)
      )
]

abbrev second_lane : DateTime → ℕ
second_lane at =
    ((((at.hour * 60 % 2 ^ 32 + at.minute) % 2 ^ 32 * 60 % 2 ^ 32 + at.second) % 2 ^ 32 + 93_599) % 2 ^ 32 + (2 ^ 32 - of_z w32 at.offset_seconds)) % 2 ^ 32

second_lane-is : (at : DateTime) → IsInside at →
    pos (second_lane at) ≡ (pos (clock_second at.hour at.minute at.second) -ℤ at.offset_seconds) +ℤ pos 93_599
second_lane-is at h =
    let clock = clock-lane at.hour at.minute at.second h.hour h.minute h.second in
    let offset = shifted_offset-is at.offset_seconds h.offset in
    let small : shifted_offset at.offset_seconds ≤ 187_198 = omega (arith, signed_arith, h.offset.1) in
    let lane = offset-lane (clock_second at.hour at.minute at.second) (of_z w32 at.offset_seconds) clock.1 (bits-bound at.offset_seconds h.offset) small in
    rw clock.0 (omega (arith, signed_arith, lane, offset))

abbrev day_lane : DateTime → ℕ
day_lane at = ((days_to_march (march_year_of (shifted_year at.year) at.month) + days_from_march at.month) % 2 ^ 32 + at.day) % 2 ^ 32

abbrev pub count_lane : DateTime → ℕ
count_lane at = ((day_lane at * 86_400 % 2 ^ 64 + second_lane at) % 2 ^ 64 + (2 ^ 64 - 31_619_114_215_199)) % 2 ^ 64

second-sum : (n : ℕ) (day clock offset : ℤ) (s : ℕ) → pos n ≡ day +ℤ pos 365_961_969 → pos s ≡ (clock -ℤ offset) +ℤ pos 93_599 →
    pos (n * 86_400 + s) -ℤ pos 31_619_114_215_199 ≡ ((day *ℤ pos 86_400) +ℤ clock) -ℤ offset
second-sum n day clock offset s e h = omega (arith, signed_arith)

second-bound : (at : DateTime) → second_lane at < 2 ^ 32
second-bound at = omega arith

pub second_of-lane : (at : DateTime) (r : ℤ) → IsInside at → r ≡ to_z w64 (count_lane at) → r ≡ second_of at
second_of-lane at r h e =
    let days = day_count-bound at h in
    let day : day_lane at ≡ day_count at =
    sum-lane (days_to_march (march_year_of (shifted_year at.year) at.month)) (days_from_march at.month) at.day days in
    let wide = sum-wide (day_count at) (second_lane at) days (second-bound at) in
    e ∙ rw (day, wide.0) (second-bits (day_count at * 86_400 + second_lane at) wide.1 ∙
    second-sum (day_count at) (day_of_calendar_date at.year at.month at.day) (pos (clock_second at.hour at.minute at.second)) at.offset_seconds
    (second_lane at) (day_count-is at h) (second_lane-is at h))

pub four-seconds : {a b c d e f g h : ℤ} → to_z w64 (of_z w64 a) ≡ a → to_z w64 (of_z w64 b) ≡ b → to_z w64 (of_z w64 c) ≡ c → to_z w64 (of_z w64 d) ≡ d →
    a ≡ e → b ≡ f → c ≡ g → d ≡ h →
    to_z w64 (of_z w64 a) ∷ to_z w64 (of_z w64 b) ∷ to_z w64 (of_z w64 c) ∷ to_z w64 (of_z w64 d) ∷ [] ≡ e ∷ f ∷ g ∷ h ∷ []
four-seconds p q r s i j k l = cc
