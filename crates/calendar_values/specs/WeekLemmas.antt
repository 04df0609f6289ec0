-- The day of the week and the ISO week in closed form.
use Rattle.std.proofs.Common.{◌≡◌, ℕ, zero, suc, ◌+◌, ◌-◌, ◌*◌, ◌/◌, ◌%◌, ◌<◌, refl, arith, ℤ, ◌+ℤ◌, ◌-ℤ◌, pos}
use Rattle.std.proofs.lemmas.Bool.Decides.{nat_tests}
use borrow.Author.Differences.{up, down}
use Rattle.calendar_values.specs.Calendar.{year_start, year_of, ordinal_of}
use Rattle.calendar_values.specs.DayLemmas.{ordinal_of-start, IsOrdinalDate-of}
use Rattle.calendar_values.specs.Range.{IsDay}
use Rattle.calendar_values.specs.SignedArith.{signed_arith}
use Rattle.calendar_values.specs.Weeks.{weekday_of, thursday_of, iso_week_of, count_weekday}

-- the weekday of a day, in terms that `omega` reads
pub weekday_of-parts : (n : ℤ) → weekday_of n ≡ (up n + 6 * down n + 3) % 7
unfolding weekday_of
weekday_of-parts n = omega (arith, signed_arith)

pub weekday_of-bound : (n : ℤ) → weekday_of n < 7
weekday_of-bound n = omega (arith, weekday_of-parts n)

-- k days later the number of the weekday is greater by k, modulo 7
pub weekday_of-add : (a b : ℤ) (k : ℕ) → b ≡ a +ℤ pos k → weekday_of b ≡ (weekday_of a + k) % 7
weekday_of-add a b k e = omega (arith, signed_arith, weekday_of-parts a, weekday_of-parts b)

-- each seventh of k days in a row falls on a day of the week
pub count_weekday-closed : (w : ℕ) (first : ℤ) (k : ℕ) → w < 7 → count_weekday w first k ≡ (k + (weekday_of first + 13 - w) % 7) / 7
unfolding count_weekday
count_weekday-closed w first zero h = omega (arith, weekday_of-bound first)
count_weekday-closed w first (suc k) h =
    let here = weekday_of-add first (first +ℤ pos k) k refl in
    let low = weekday_of-bound first in
    let earlier = count_weekday-closed w first k h in
    grind (arith, nat_tests)

-- the weekday of a day, from that of 1 January
pub weekday_of-ordinal : (n : ℤ) → weekday_of n ≡ (weekday_of (year_start (year_of n)) + (ordinal_of n - 1)) % 7
weekday_of-ordinal n =
    let place = IsOrdinalDate-of n in
    weekday_of-add (year_start (year_of n)) n (ordinal_of n - 1) (omega (arith, signed_arith, ordinal_of-start n, place.first))

-- the Thursday of a week is a Thursday
pub weekday_of-thursday_of : (n : ℤ) → weekday_of (thursday_of n) ≡ 3
weekday_of-thursday_of n = omega (arith, signed_arith, weekday_of-parts n, weekday_of-parts (thursday_of n))

pub iso_week_of-closed : (n : ℤ) → iso_week_of n ≡ (ordinal_of (thursday_of n) + 6) / 7
iso_week_of-closed n =
    let t = thursday_of n in
    let place = IsOrdinalDate-of t in
    let moved = weekday_of-ordinal t in
    omega (
      arith,
      place.first,
      weekday_of-thursday_of n,
      count_weekday-closed 3 (year_start (year_of t)) (ordinal_of t) (omega arith),
      weekday_of-bound (year_start (year_of t)),
    )

-- the Thursday of the week of a day of the range is in the range, which begins on a Monday and ends on a Friday
pub IsDay-thursday_of : (n : ℤ) → IsDay n → IsDay (thursday_of n)
IsDay-thursday_of n h = (omega (arith, signed_arith, weekday_of-parts n, h.0), omega (arith, signed_arith, weekday_of-parts n, h.1))

-- the weekday k days later
pub weekday_of-days_later : (n : ℤ) (k : ℕ) → weekday_of (n +ℤ pos k) ≡ (weekday_of n + k) % 7
weekday_of-days_later n k = weekday_of-add n (n +ℤ pos k) k refl

-- the weekday k days earlier: 6 days on for each
pub weekday_of-days_earlier : (n : ℤ) (k : ℕ) → weekday_of (n -ℤ pos k) ≡ (weekday_of n + 6 * k) % 7
weekday_of-days_earlier n k = omega (arith, signed_arith, weekday_of-parts n, weekday_of-parts (n -ℤ pos k))

-- a week later, or earlier, is the same day of the week
pub weekday_of-week_later : (a b : ℤ) → b ≡ a +ℤ pos 7 → weekday_of b ≡ weekday_of a
weekday_of-week_later a b e = omega (arith, weekday_of-add a b 7 e, weekday_of-bound a)

pub weekday_of-week_earlier : (a b : ℤ) → b ≡ a -ℤ pos 7 → weekday_of b ≡ weekday_of a
weekday_of-week_earlier a b e = let back : a ≡ b +ℤ pos 7 = omega (arith, signed_arith) in omega (arith, weekday_of-week_later b a back)

-- the Monday of the week of a day is a Monday
pub weekday_of-monday : (n : ℤ) → weekday_of (n -ℤ pos (weekday_of n)) ≡ 0
weekday_of-monday n = omega (arith, signed_arith, weekday_of-parts n, weekday_of-parts (n -ℤ pos (weekday_of n)))

-- a caller who lists `weekdays` goes from a day to others of its week, and to those of the next
pub ruleset weekdays = (
  weekday_of-bound,
  weekday_of-days_later,
  weekday_of-week_later,
  weekday_of-week_earlier,
  weekday_of-monday,
)
