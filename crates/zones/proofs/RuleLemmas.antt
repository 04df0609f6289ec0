-- Days of rules.
use Rattle.std.proofs.Common.{◌≡◌, ℕ, ◌+◌, ◌-◌, ◌*◌, ◌≤◌, ◌<◌, ◌&&◌, nat_le, true, false, Bool, cond, FitsSigned, to_z, of_z, ℤ, pos, neg_ℤ, ◌+ℤ◌, ◌-ℤ◌}
use Rattle.std.proofs.Common.{◌≤ℤ◌, ◌<ℤ◌, inl, inr, int_lt, refl, sym, ap, ◌∙◌, arith}
use borrow.Author.Tests.{leb-true}
use Rattle.std.proofs.lemmas.Bool.{and_parts}
use Rattle.std.proofs.lemmas.Bool.Decides.{nat_tests, leb_tells}
use Rattle.std.proofs.lemmas.Int.{by_lt_z}
use Rattle.std.specs.Int.{int_rem_euclid}
use mir.Syntax.{w32, w64}
use borrow.Author.Differences.{up, down, lt-true, lt-false}
use Rattle.calendar_values.specs.Calendar.{year_start, is_leap_year, days_before_month, days_in_month, days_in_months, year_length}
use Rattle.calendar_values.specs.Month.{month_number}
use Rattle.calendar_values.specs.SignedArith.{signed_arith, one_part}
use Rattle.calendar_values.specs.YearLemmas.{days_from_0, year_start-closed, leap_day, leap_day-shift, days_from_0-shift}
use Rattle.calendar_values.specs.declared.month.Month.{Month}
use Rattle.calendar_values.specs.declared.month.Month.TheVariants.{January, February, March, April, May, June, July, August, September, October, November}
use Rattle.calendar_values.specs.declared.month.Month.TheVariants.{December}
use Rattle.zones.specs.declared.rule_day.RuleDay.{RuleDay}
use Rattle.zones.specs.declared.rule_day.RuleDay.TheVariants.{Weekday, Common, Counted}
use Rattle.zones.specs.Rules.{IsRuleYear, IsRuleDay, is_rule_day, IsNthWeekday, ahead_to, days_to_week, month_start, nth_weekday, rule_day}

pub lt_yes : (a b : ℤ) → a <ℤ b → int_lt a b ≡ true
lt_yes a b h = elim (int_lt a b) as (λ v. int_lt a b ≡ v → v ≡ true) [
  | true ↦ λ e. refl
  | false ↦ λ e. let over = lt-false a b e in absurd (omega (arith, signed_arith))
] refl

pub lt_no : (a b : ℤ) → b ≤ℤ a → int_lt a b ≡ false
lt_no a b h = elim (int_lt a b) as (λ v. int_lt a b ≡ v → v ≡ false) [
  | true ↦ λ e. let under = lt-true a b e in absurd (omega (arith, signed_arith))
  | false ↦ λ e. refl
] refl

-- 1 January, moment_at from 1 January of the year -2,000,000
pub year_start-years : (y : ℤ) → IsRuleYear y → up (year_start y) + 731_204_528 ≡ down (year_start y) + days_from_0 (up y + 2_000_000 - down y)
year_start-years y h =
    let closed = year_start-closed 5000 (up y + 2_000_000 - down y) y (omega (arith, signed_arith)) in
    omega (arith, signed_arith)

pub week_then : (ahead : ℤ) (length week : ℕ) → (ahead +ℤ pos (7 * (week - 1))) <ℤ pos length → days_to_week ahead length week ≡ ahead +ℤ pos
    (7 * (week - 1))
unfolding days_to_week
week_then ahead length week h = rw (lt_yes _ _ h) refl

pub week_else : (ahead : ℤ) (length week : ℕ) → pos length ≤ℤ (ahead +ℤ pos (7 * (week - 1))) → days_to_week ahead length week ≡ ahead +ℤ pos
    (7 * (week - 1)) -ℤ pos 7
unfolding days_to_week
week_else ahead length week h = rw (lt_no _ _ h) refl

-- that many weeks after the first such day, the weekday is the same
pub weekday_ahead : (first day : ℤ) (weekday k : ℕ) → weekday ≤ 6 → day +ℤ pos 7 ≡ first +ℤ ahead_to first weekday +ℤ pos (7 * k) → int_rem_euclid
    (day +ℤ pos 4) (pos 7) ≡ pos weekday
weekday_ahead first day weekday k h e = omega (arith, signed_arith, one_part (day +ℤ pos 4), one_part (pos weekday -ℤ first -ℤ pos 4))

pub is_nth : (first : ℤ) (length week weekday : ℕ) (day : ℤ) → 28 ≤ length → length ≤ 31 → (1 ≤ week) × (week ≤ 5) → weekday ≤ 6 → day ≡ nth_weekday first
    length week weekday → IsNthWeekday first length week weekday day
is_nth first length week weekday day long short week_in weekday_in e = by_lt_z (ahead_to first weekday +ℤ pos (7 * (week - 1))) (pos length)
    (λ lt.
    let v = week_then (ahead_to first weekday) length week lt in
    record {
      low = omega (arith, signed_arith);
      high = omega (arith, signed_arith);
      weekday_is = weekday_ahead first day weekday week weekday_in (omega (arith, signed_arith));
      nth = λ l. (omega (arith, signed_arith), omega (arith, signed_arith));
      last = λ l. omega (arith, signed_arith);
    })
    (λ ge.
    let v = week_else (ahead_to first weekday) length week ge in
    record {
      low = omega (arith, signed_arith);
      high = omega (arith, signed_arith);
      weekday_is = weekday_ahead first day weekday (week - 1) weekday_in (omega (arith, signed_arith));
      nth = λ l. (omega (arith, signed_arith), omega (arith, signed_arith));
      last = λ l. omega (arith, signed_arith);
    })

-- the months lie in the year
pub month_fits : (b : Bool) (m : Month) → days_before_month b (month_number m) + days_in_month b (month_number m) ≤ year_length b
unfolding days_in_months
month_fits false January = omega arith
month_fits false February = omega arith
month_fits false March = omega arith
month_fits false April = omega arith
month_fits false May = omega arith
month_fits false June = omega arith
month_fits false July = omega arith
month_fits false August = omega arith
month_fits false September = omega arith
month_fits false October = omega arith
month_fits false November = omega arith
month_fits false December = omega arith
month_fits true January = omega arith
month_fits true February = omega arith
month_fits true March = omega arith
month_fits true April = omega arith
month_fits true May = omega arith
month_fits true June = omega arith
month_fits true July = omega arith
month_fits true August = omega arith
month_fits true September = omega arith
month_fits true October = omega arith
month_fits true November = omega arith
month_fits true December = omega arith

pub month_sizes : (b : Bool) (m : Month) → (28 ≤ days_in_month b (month_number m)) × (days_in_month b (month_number m) ≤ 31)
month_sizes false January = (omega arith, omega arith)
month_sizes false February = (omega arith, omega arith)
month_sizes false March = (omega arith, omega arith)
month_sizes false April = (omega arith, omega arith)
month_sizes false May = (omega arith, omega arith)
month_sizes false June = (omega arith, omega arith)
month_sizes false July = (omega arith, omega arith)
month_sizes false August = (omega arith, omega arith)
month_sizes false September = (omega arith, omega arith)
month_sizes false October = (omega arith, omega arith)
month_sizes false November = (omega arith, omega arith)
month_sizes false December = (omega arith, omega arith)
month_sizes true January = (omega arith, omega arith)
month_sizes true February = (omega arith, omega arith)
month_sizes true March = (omega arith, omega arith)
month_sizes true April = (omega arith, omega arith)
month_sizes true May = (omega arith, omega arith)
month_sizes true June = (omega arith, omega arith)
month_sizes true July = (omega arith, omega arith)
month_sizes true August = (omega arith, omega arith)
month_sizes true September = (omega arith, omega arith)
month_sizes true October = (omega arith, omega arith)
month_sizes true November = (omega arith, omega arith)
month_sizes true December = (omega arith, omega arith)

-- which parts of a rule's day the year gives
pub day_of_weekday : (y : ℤ) (m : Month) (week weekday : ℕ) → rule_day (Weekday m week weekday) y ≡ nth_weekday (month_start y (month_number m))
    (days_in_month (is_leap_year y) (month_number m)) week weekday
unfolding rule_day
day_of_weekday y m week weekday = refl

pub day_of_common_late : (y : ℤ) (n : ℕ) → is_leap_year y ≡ true → 60 ≤ n → rule_day (Common n) y ≡ year_start y +ℤ pos n
unfolding rule_day
day_of_common_late y n leap late =
    let t : nat_le 60 n ≡ true = grind (arith, nat_tests) in
    rw (leap, t) refl

pub day_of_common_in : (y : ℤ) (n : ℕ) → (is_leap_year y && nat_le 60 n) ≡ true → rule_day (Common n) y ≡ year_start y +ℤ pos n
unfolding rule_day
day_of_common_in y n h = rw h refl

pub day_of_common : (y : ℤ) (n : ℕ) → (is_leap_year y && nat_le 60 n) ≡ false → rule_day (Common n) y ≡ year_start y +ℤ pos n -ℤ pos 1
unfolding rule_day
day_of_common y n h = rw h refl

-- the two tests of it
pub late_leap : (y : ℤ) (n : ℕ) → n < 60 → (is_leap_year y && nat_le 60 n) ≡ false
late_leap y n h =
    let t : nat_le 60 n ≡ false = grind (arith, nat_tests) in
    elim (is_leap_year y) as (λ b. (b && nat_le 60 n) ≡ false) [ true ↦ t | false ↦ refl ]

pub no_leap : (y : ℤ) (n : ℕ) → is_leap_year y ≡ false → (is_leap_year y && nat_le 60 n) ≡ false
no_leap y n h = rw h refl

pub back64 : (z : ℤ) → FitsSigned w64 z → to_z w64 (of_z w64 z) ≡ z
back64 z h = omega (arith, signed_arith)

pub back32 : (y : ℤ) → IsRuleYear y → to_z w32 (of_z w32 y) ≡ y
back32 y h = omega (arith, signed_arith)

pub back_y : (y : ℤ) → IsRuleYear y → to_z w64 (of_z w64 y) ≡ y
back_y y h = omega (arith, signed_arith)

-- the year on its way through 64 bits to 32
pub back_year : (y : ℤ) → IsRuleYear y → to_z w32 (of_z w32 (to_z w64 (of_z w64 y))) ≡ y
back_year y h = omega (arith, signed_arith)

pub month_bounds : (y : ℤ) (m : Month) → days_before_month (is_leap_year y) (month_number m) + days_in_month (is_leap_year y) (month_number m) ≤ 366
month_bounds y m =
    let fit = month_fits (is_leap_year y) m in
    let most : year_length (is_leap_year y) ≤ 366 = grind arith in
    omega arith

pub day_of_counted : (y : ℤ) (n : ℕ) → rule_day (Counted n) y ≡ year_start y +ℤ pos n
unfolding rule_day
day_of_counted y n = refl

-- a rule's day lies in the year, or on the day after it
pub rule_day_bounds : (d : RuleDay) (y : ℤ) → IsRuleDay d → (year_start y ≤ℤ rule_day d y) × (rule_day d y ≤ℤ (year_start y +ℤ pos 365))
rule_day_bounds (Weekday m week weekday) y h =
    let length = days_in_month (is_leap_year y) (month_number m) in
    let size = month_sizes (is_leap_year y) m in
    let nth = is_nth (month_start y (month_number m)) length week weekday _ size.0 size.1 (h.0, h.1) h.2 refl in
    let low = nth.low in
    let high = nth.high in
    let fit = month_bounds y m in
    let d = day_of_weekday y m week weekday in
    (omega (arith, signed_arith), omega (arith, signed_arith))
rule_day_bounds (Common n) y h = choose (is_leap_year y && nat_le 60 n) refl where
  choose : (b : Bool) → (is_leap_year y && nat_le 60 n) ≡ b → (year_start y ≤ℤ rule_day (Common n) y) × (rule_day (Common n) y ≤ℤ (year_start y +ℤ pos 365))
  choose true e = let d = day_of_common_in y n e in (omega (arith, signed_arith), omega (arith, signed_arith))
  choose false e = let d = day_of_common y n e in (omega (arith, signed_arith), omega (arith, signed_arith))
rule_day_bounds (Counted n) y h =
    let d = day_of_counted y n in
    (omega (arith, signed_arith), omega (arith, signed_arith))

-- what the test of a rule's day says
pub rule_day_in : (d : RuleDay) → is_rule_day d ≡ true → IsRuleDay d
rule_day_in (Weekday m week weekday) e =
    let parts = and_parts (nat_le 1 week) (nat_le week 5 && nat_le weekday 6) e in
    let rest = and_parts (nat_le week 5) (nat_le weekday 6) parts.1 in
    let one = parts.0 in
    let two = rest.0 in
    let three = rest.1 in
    (omega (arith, leb-true), omega (arith, leb-true), omega (arith, leb-true))
rule_day_in (Common n) e =
    let parts = and_parts (nat_le 1 n) (nat_le n 365) e in
    let one = parts.0 in
    let two = parts.1 in
    (omega (arith, leb-true), omega (arith, leb-true))
rule_day_in (Counted n) e = omega (arith, leb-true)

pub year_start_bounds : (y : ℤ) → IsRuleYear y → (neg_ℤ (pos 450_000_000) ≤ℤ year_start y) × (year_start y ≤ℤ pos 450_000_000)
year_start_bounds y h =
    let closed = year_start-years y h in
    (omega (arith, signed_arith), omega (arith, signed_arith))

-- 1 for a leap year
pub one_if : Bool → ℕ
one_if b = cond b 1 0

same_leap : (a b : Bool) → one_if a ≡ one_if b → a ≡ b
unfolding one_if
same_leap true true e = refl
same_leap false false e = refl
same_leap true false e = absurd (omega arith)
same_leap false true e = absurd (omega arith)

leap_day_is : (y : ℤ) → leap_day y ≡ one_if (is_leap_year y)
unfolding one_if
leap_day_is y = refl

-- years repeat after 400
pub is_leap_year-shift : (y : ℤ) (k : ℕ) → is_leap_year (y +ℤ pos (400 * k)) ≡ is_leap_year y
is_leap_year-shift y k =
    let n = up y + 400 * (up y + down y) - down y in
    let one = leap_day-shift (up y + down y) n y (omega (arith, signed_arith)) in
    let two = leap_day-shift (up y + down y) (n + 400 * k) (y +ℤ pos (400 * k)) (omega (arith, signed_arith)) in
    let three = leap_day-shift k (n + 400 * k) (pos n) (omega (arith, signed_arith)) in
    same_leap (is_leap_year (y +ℤ pos (400 * k))) (is_leap_year y) (sym (leap_day_is (y +ℤ pos (400 * k))) ∙ two ∙ sym three ∙ sym one ∙ leap_day_is y)

pub year_start-shift : (y : ℤ) (k : ℕ) → year_start (y +ℤ pos (400 * k)) ≡ year_start y +ℤ pos (146097 * k)
year_start-shift y k =
    let n = up y + 400 * (up y + down y) - down y in
    let one = year_start-closed (up y + down y) n y (omega (arith, signed_arith)) in
    let two = year_start-closed (up y + down y) (n + 400 * k) (y +ℤ pos (400 * k)) (omega (arith, signed_arith)) in
    let three = days_from_0-shift n k in
    omega (arith, signed_arith)

pub ahead_to-shift : (day : ℤ) (weekday k : ℕ) → ahead_to (day +ℤ pos (146097 * k)) weekday ≡ ahead_to day weekday
ahead_to-shift day weekday k =
    omega (arith, signed_arith, one_part (pos weekday -ℤ day -ℤ pos 4), one_part (pos weekday -ℤ (day +ℤ pos (146097 * k)) -ℤ pos 4))

pub rule_day-shift : (d : RuleDay) (y : ℤ) (k : ℕ) → rule_day d (y +ℤ pos (400 * k)) ≡ rule_day d y +ℤ pos (146097 * k)
rule_day-shift (Weekday m week weekday) y k =
    let leap = is_leap_year-shift y k in
    let ys = year_start-shift y k in
    let length = ap (λ (b : Bool). days_in_month b (month_number m)) leap in
    let before = ap (λ (b : Bool). days_before_month b (month_number m)) leap in
    let first : month_start (y +ℤ pos (400 * k)) (month_number m) ≡ month_start y (month_number m) +ℤ pos (146097 * k) = omega (arith, signed_arith) in
    let ahead : ahead_to (month_start (y +ℤ pos (400 * k)) (month_number m)) weekday ≡ ahead_to (month_start y (month_number m)) weekday = ap
    (λ (z : ℤ). ahead_to z weekday) first ∙ ahead_to-shift (month_start y (month_number m)) weekday k in
    let days = ap (λ (a : ℤ). days_to_week a (days_in_month (is_leap_year (y +ℤ pos (400 * k))) (month_number m)) week) ahead ∙ ap
    (λ (n : ℕ). days_to_week (ahead_to (month_start y (month_number m)) weekday) n week) length in
    let d1 = day_of_weekday y m week weekday in
    let d2 = day_of_weekday (y +ℤ pos (400 * k)) m week weekday in
    omega (arith, signed_arith)
rule_day-shift (Common n) y k = choose (is_leap_year y && nat_le 60 n) refl where
  choose : (b : Bool) → (is_leap_year y && nat_le 60 n) ≡ b → rule_day (Common n) (y +ℤ pos (400 * k)) ≡ rule_day (Common n) y +ℤ pos (146097 * k)
  choose true e =
      let later = ap (λ (b : Bool). b && nat_le 60 n) (is_leap_year-shift y k) ∙ e in
      let d1 = day_of_common_in y n e in
      let d2 = day_of_common_in (y +ℤ pos (400 * k)) n later in
      let ys = year_start-shift y k in
      omega (arith, signed_arith)
  choose false e =
      let later = ap (λ (b : Bool). b && nat_le 60 n) (is_leap_year-shift y k) ∙ e in
      let d1 = day_of_common y n e in
      let d2 = day_of_common (y +ℤ pos (400 * k)) n later in
      let ys = year_start-shift y k in
      omega (arith, signed_arith)
rule_day-shift (Counted n) y k =
    let d1 = day_of_counted y n in
    let d2 = day_of_counted (y +ℤ pos (400 * k)) n in
    let ys = year_start-shift y k in
    omega (arith, signed_arith)

-- the days before a month, in a leap year and in another one
pub before_near : (b : Bool) (m : Month) → (days_before_month false (month_number m) ≤ days_before_month b (month_number m)) ×
    (days_before_month b (month_number m) ≤ days_before_month false (month_number m) + 1)
unfolding days_in_months
before_near false January = (omega arith, omega arith)
before_near false February = (omega arith, omega arith)
before_near false March = (omega arith, omega arith)
before_near false April = (omega arith, omega arith)
before_near false May = (omega arith, omega arith)
before_near false June = (omega arith, omega arith)
before_near false July = (omega arith, omega arith)
before_near false August = (omega arith, omega arith)
before_near false September = (omega arith, omega arith)
before_near false October = (omega arith, omega arith)
before_near false November = (omega arith, omega arith)
before_near false December = (omega arith, omega arith)
before_near true January = (omega arith, omega arith)
before_near true February = (omega arith, omega arith)
before_near true March = (omega arith, omega arith)
before_near true April = (omega arith, omega arith)
before_near true May = (omega arith, omega arith)
before_near true June = (omega arith, omega arith)
before_near true July = (omega arith, omega arith)
before_near true August = (omega arith, omega arith)
before_near true September = (omega arith, omega arith)
before_near true October = (omega arith, omega arith)
before_near true November = (omega arith, omega arith)
before_near true December = (omega arith, omega arith)

-- a rule's day lies in the same 32 days of each year
pub rule_day_near : (d : RuleDay) → IsRuleDay d → (base : ℕ) ×
    ((y : ℤ) → ((year_start y +ℤ pos base) ≤ℤ rule_day d y) × (rule_day d y ≤ℤ (year_start y +ℤ pos (base + 31))))
rule_day_near (Weekday m week weekday) h = (
  days_before_month false (month_number m),
  λ y.
      let length = days_in_month (is_leap_year y) (month_number m) in
      let size = month_sizes (is_leap_year y) m in
      let nth = is_nth (month_start y (month_number m)) length week weekday _ size.0 size.1 (h.0, h.1) h.2 refl in
      let low = nth.low in
      let high = nth.high in
      let near = before_near (is_leap_year y) m in
      let n0 = near.0 in
      let n1 = near.1 in
      let s1 = size.1 in
      let d = day_of_weekday y m week weekday in
      (omega (arith, signed_arith), omega (arith, signed_arith)),
)
rule_day_near (Common n) h = (n - 1, λ y. choose y (is_leap_year y && nat_le 60 n) refl) where
  choose : (y : ℤ) (b : Bool) → (is_leap_year y && nat_le 60 n) ≡ b → ((year_start y +ℤ pos (n - 1)) ≤ℤ rule_day (Common n) y) ×
      (rule_day (Common n) y ≤ℤ (year_start y +ℤ pos (n - 1 + 31)))
  choose y true e = let d = day_of_common_in y n e in (omega (arith, signed_arith), omega (arith, signed_arith))
  choose y false e = let d = day_of_common y n e in let one = h.0 in (omega (arith, signed_arith), omega (arith, signed_arith))
rule_day_near (Counted n) h = (n, λ y. let d = day_of_counted y n in (omega (arith, signed_arith), omega (arith, signed_arith)))

-- a month begins after 30 days for each month before it, less one, and after 31 at most
month_near : (b : Bool) (m : Month) → (30 * month_number m ≤ days_before_month b (month_number m) + 31) ×
    (days_before_month b (month_number m) + 31 ≤ 31 * month_number m)
unfolding days_in_months
month_near false January = (omega arith, omega arith)
month_near false February = (omega arith, omega arith)
month_near false March = (omega arith, omega arith)
month_near false April = (omega arith, omega arith)
month_near false May = (omega arith, omega arith)
month_near false June = (omega arith, omega arith)
month_near false July = (omega arith, omega arith)
month_near false August = (omega arith, omega arith)
month_near false September = (omega arith, omega arith)
month_near false October = (omega arith, omega arith)
month_near false November = (omega arith, omega arith)
month_near false December = (omega arith, omega arith)
month_near true January = (omega arith, omega arith)
month_near true February = (omega arith, omega arith)
month_near true March = (omega arith, omega arith)
month_near true April = (omega arith, omega arith)
month_near true May = (omega arith, omega arith)
month_near true June = (omega arith, omega arith)
month_near true July = (omega arith, omega arith)
month_near true August = (omega arith, omega arith)
month_near true September = (omega arith, omega arith)
month_near true October = (omega arith, omega arith)
month_near true November = (omega arith, omega arith)
month_near true December = (omega arith, omega arith)

pub month_is : (m : Month) → (1 ≤ month_number m) × (month_number m ≤ 12)
month_is January = (omega arith, omega arith)
month_is February = (omega arith, omega arith)
month_is March = (omega arith, omega arith)
month_is April = (omega arith, omega arith)
month_is May = (omega arith, omega arith)
month_is June = (omega arith, omega arith)
month_is July = (omega arith, omega arith)
month_is August = (omega arith, omega arith)
month_is September = (omega arith, omega arith)
month_is October = (omega arith, omega arith)
month_is November = (omega arith, omega arith)
month_is December = (omega arith, omega arith)

-- the day with a weekday in a week of a month lies in the same 22 days of each year
pub weekday_near : (m : Month) (week weekday : ℕ) (base : ℤ) → IsRuleDay (Weekday m week weekday) → (week ≤ 4 → base ≡ pos (30 * month_number m + 7 * week)
    -ℤ pos 38) → (week ≡ 5 → base ≡ pos (30 * month_number m) -ℤ pos 10) → (y : ℤ) → ((year_start y +ℤ base) ≤ℤ rule_day (Weekday m week weekday) y) ×
    (rule_day (Weekday m week weekday) y ≤ℤ (year_start y +ℤ base +ℤ pos 21))
weekday_near m week weekday base h early last y =
    let size = month_sizes (is_leap_year y) m in
    let s0 = size.0 in
    let s1 = size.1 in
    let nth = is_nth (month_start y (month_number m)) (days_in_month (is_leap_year y) (month_number m)) week weekday _ s0 s1 (h.0, h.1) h.2 refl in
    let near = month_near (is_leap_year y) m in
    let n0 = near.0 in
    let n1 = near.1 in
    let is = month_is m in
    let i0 = is.0 in
    let i1 = is.1 in
    let d = day_of_weekday y m week weekday in
    let most = h.1 in
    elim (leb_tells week 4) [
      | inl in_week ↦
          let e = early in_week.1 in
          let at = nth.nth in_week.1 in
          let low = at.0 in
          let high = at.1 in
          (omega (arith, signed_arith), omega (arith, signed_arith))
      | inr over ↦
          let five : week ≡ 5 = (let o = over.1 in omega arith) in
          let e = last five in
          let low = nth.last five in
          let high = nth.high in
          (omega (arith, signed_arith), omega (arith, signed_arith))
    ]

pub common_near : (n : ℕ) → IsRuleDay (Common n) → (y : ℤ) → ((year_start y +ℤ pos n -ℤ pos 1) ≤ℤ rule_day (Common n) y) ×
    (rule_day (Common n) y ≤ℤ (year_start y +ℤ pos n))
common_near n h y = choose (is_leap_year y && nat_le 60 n) refl where
  choose : (b : Bool) → (is_leap_year y && nat_le 60 n) ≡ b → ((year_start y +ℤ pos n -ℤ pos 1) ≤ℤ rule_day (Common n) y) ×
      (rule_day (Common n) y ≤ℤ (year_start y +ℤ pos n))
  choose true e = let d = day_of_common_in y n e in (omega (arith, signed_arith), omega (arith, signed_arith))
  choose false e = let d = day_of_common y n e in (omega (arith, signed_arith), omega (arith, signed_arith))
