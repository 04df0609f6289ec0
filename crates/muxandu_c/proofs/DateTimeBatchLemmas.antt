-- The second of a date-time whose parts are in their ranges, as the single call has it.
use Rattle.std.proofs.Common.{◌≡◌, ℕ, ◌<◌, ◌≤◌, ◌||◌, ◌==◌, nat_lt, Result, Ok, refl, sym, ap, arith, false, ℤ, pos, ◌+ℤ◌, ◌-ℤ◌, ◌*ℤ◌}
use Rattle.std.proofs.Common.{◌≤ℤ◌, ◌<ℤ◌, neg_ℤ, w64, to_z, of_z}
use Rattle.std.proofs.lemmas.Bool.Decides.{nat_tests}
use Rattle.calendar_values.specs.SignedArith.{signed_arith}
use Rattle.calendar_values.specs.Calendar.{is_leap_year, days_in_month, day_of_calendar_date, IsCalendarDate}
use Rattle.calendar_values.specs.CalendarDateLemmas.{IsOrdinalDate-date}
use Rattle.calendar_values.specs.Clock.{clock_of_parts}
use Rattle.calendar_values.specs.Constructors.{calendar_date, clock_with, clock_time_nano}
use Rattle.calendar_values.specs.Offsets.{IsOffset}
use Rattle.calendar_values.specs.Range.{first_year, last_year, first_day, last_day}
use Rattle.calendar_values.specs.WallClock.{wall_clock, first_wall_clock, last_wall_clock, unix_seconds_of}
use Rattle.calendar_values.specs.YearLemmas.{year_start-next, year_start-later, year_start-first, year_start-after_last}
use Rattle.offset_times.specs.Local.{instant_of, wall_at}
use Rattle.lanes.specs.Seconds.{IsInside, second_of, clock_second}
use Rattle.muxandu_c.specs.DateTimeBatches.{lane_of_date_time}
use Rattle.muxandu_c.specs.Values.{second_of_date_time, date_value, instant_if_any}
use Rattle.muxandu_c.specs.declared.refused.Refused.{Refused}
use Rattle.muxandu_c.specs.declared.values.MuxanduDateTime.{MuxanduDateTime}
use Rattle.muxandu_c.proofs.SecondBatchLemmas.{inside, offset-inside}

month-inside : (m : ℕ) → 1 ≤ m → m ≤ 12 → m == 0 || nat_lt 12 m ≡ false
month-inside m low high = grind (arith, nat_tests)

day-inside : (d last : ℕ) → 1 ≤ d → d ≤ last → d == 0 || nat_lt last d ≡ false
day-inside d last low high = grind (arith, nat_tests)

date-inside : (y : ℤ) (m d : ℕ) → first_year ≤ℤ y → y ≤ℤ last_year → IsCalendarDate y m d → date_value y m d ≡ Ok (day_of_calendar_date y m d)
unfolding calendar_date
date-inside y m d low high h =
    rw (
      month-inside m h.month_first h.month_last,
      inside first_year last_year y low high,
      day-inside d (days_in_month (is_leap_year y) m) h.day_first h.day_last,
    ) refl

parts-inside : (h m s n : ℕ) → h ≤ 23 → m ≤ 59 → s ≤ 59 → n ≤ 999_999_999 →
    nat_lt 23 h || (nat_lt 59 m || (nat_lt 59 s || nat_lt 999_999_999 n)) ≡ false
parts-inside h m s n a b c d = grind (arith, nat_tests)

clock-inside : (h m s n : ℕ) → h ≤ 23 → m ≤ 59 → s ≤ 59 → n ≤ 999_999_999 → clock_time_nano h m s n ≡ Ok (clock_of_parts h m s n)
unfolding clock_with
clock-inside h m s n a b c d = rw (parts-inside h m s n a b c d) refl

-- a day of no year at an end of the range lies a year or more from both ends
day-margin : (y : ℤ) (m d : ℕ) → first_year <ℤ y → y <ℤ last_year → IsCalendarDate y m d →
    ((first_day +ℤ pos 365) ≤ℤ day_of_calendar_date y m d) × ((day_of_calendar_date y m d +ℤ pos 365) ≤ℤ last_day)
day-margin y m d low high h =
    let ordinal = IsOrdinalDate-date y m d h in
    let after_first = year_start-later first_year y low in
    let before_last = year_start-later (y +ℤ pos 1) (last_year +ℤ pos 1) (omega (arith, signed_arith)) in (
      omega (arith, signed_arith, year_start-first, after_first, ordinal.first),
      omega (arith, signed_arith, year_start-after_last, year_start-next y, before_last, ordinal.last),
    )

instant-inside : (n : ℤ) (c : ℕ) (o : ℤ) → (first_day +ℤ pos 365) ≤ℤ n → (n +ℤ pos 365) ≤ℤ last_day → c < 86_400_000_000_000 → IsOffset o →
    instant_if_any (instant_of (wall_at (wall_clock n c) o)) ≡ Ok (instant_of (wall_at (wall_clock n c) o))
unfolding instant_of
instant-inside n c o low high h k =
    let i = instant_of (wall_at (wall_clock n c) o) in
    let first : first_wall_clock ≤ℤ i = omega (arith, signed_arith, k.0, k.1) in
    let last : i ≤ℤ last_wall_clock = omega (arith, signed_arith, k.0, k.1) in
    let within = inside first_wall_clock last_wall_clock i first last in
    rw within refl

clock-bound : (h m s n : ℕ) → h ≤ 23 → m ≤ 59 → s ≤ 59 → n ≤ 999_999_999 → clock_of_parts h m s n < 86_400_000_000_000
clock-bound h m s n a b c d = omega arith

seconds-counted : (n : ℤ) (h m s nano : ℕ) (o : ℤ) → nano ≤ 999_999_999 →
    unix_seconds_of (instant_of (wall_at (wall_clock n (clock_of_parts h m s nano)) o)) ≡ ((n *ℤ pos 86_400) +ℤ pos (clock_second h m s)) -ℤ o
unfolding instant_of
seconds-counted n h m s nano o below = omega (arith, signed_arith)

abbrev ok : ℤ → Result ℤ Refused
ok r = Ok r

-- what the single call gives
pub second_of-call : (v : MuxanduDateTime) → IsInside (lane_of_date_time v) → Ok (second_of (lane_of_date_time v)) ≡ second_of_date_time v
second_of-call v h =
    let margin = day-margin v.year v.month v.day (omega (arith, signed_arith, h.year_first)) (omega (arith, signed_arith, h.year_last)) h.date in
    sym (rw (
      date-inside v.year v.month v.day (omega (arith, signed_arith, h.year_first)) (omega (arith, signed_arith, h.year_last)) h.date,
      clock-inside v.hour v.minute v.second v.nanosecond h.hour h.minute h.second h.nanosecond,
      offset-inside v.offset_seconds h.offset,
      instant-inside (day_of_calendar_date v.year v.month v.day) (clock_of_parts v.hour v.minute v.second v.nanosecond) v.offset_seconds margin.0 margin.1
          (clock-bound v.hour v.minute v.second v.nanosecond h.hour h.minute h.second h.nanosecond) h.offset,
    )
    (ap ok (seconds-counted (day_of_calendar_date v.year v.month v.day) v.hour v.minute v.second v.nanosecond v.offset_seconds h.nanosecond)))

-- such a second comes back from its bits as it was

seconds-range : (n : ℤ) (c : ℕ) (o : ℤ) → (first_day +ℤ pos 365) ≤ℤ n → (n +ℤ pos 365) ≤ℤ last_day → c < 86_400 → IsOffset o →
    (neg_ℤ (pos 40_000_000_000_000) ≤ℤ (((n *ℤ pos 86_400) +ℤ pos c) -ℤ o)) × ((((n *ℤ pos 86_400) +ℤ pos c) -ℤ o) ≤ℤ pos 40_000_000_000_000)
seconds-range n c o low high h k = (omega (arith, signed_arith, k.0, k.1), omega (arith, signed_arith, k.0, k.1))

back : (w : ℤ) → neg_ℤ (pos 40_000_000_000_000) ≤ℤ w → w ≤ℤ pos 40_000_000_000_000 → to_z w64 (of_z w64 w) ≡ w
back w low high = omega (arith, signed_arith)

second-bound : (h m s : ℕ) → h ≤ 23 → m ≤ 59 → s ≤ 59 → clock_second h m s < 86_400
second-bound h m s a b c = omega arith

pub second_of-back : (v : MuxanduDateTime) → IsInside (lane_of_date_time v) →
    to_z w64 (of_z w64 (second_of (lane_of_date_time v))) ≡ second_of (lane_of_date_time v)
second_of-back v h =
    let margin = day-margin v.year v.month v.day (omega (arith, signed_arith, h.year_first)) (omega (arith, signed_arith, h.year_last)) h.date in
    let range = seconds-range (day_of_calendar_date v.year v.month v.day) (clock_second v.hour v.minute v.second) v.offset_seconds margin.0 margin.1
    (second-bound v.hour v.minute v.second h.hour h.minute h.second) h.offset in
    back (second_of (lane_of_date_time v)) range.0 range.1
