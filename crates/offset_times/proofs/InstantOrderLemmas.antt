-- The order of instants, by dates that lie far apart, by the parts of what clocks at one offset show, and by packed parts.
use Rattle.std.proofs.Common.{◌≡◌, ℕ, ap, arith, ℤ, pos, ◌+ℤ◌, ◌-ℤ◌, ◌*ℤ◌, ◌<ℤ◌, int_cmp}
use Rattle.std.proofs.lemmas.Int.{ints, by_lt_z}
use Rattle.calendar_values.specs.Calendar.{year_start, year_of, ordinal_of, day_of_ordinal_date, IsOrdinalDate}
use Rattle.calendar_values.specs.Clock.{nanos_per_second, hour_of, minute_of, second_of, nanosecond_of, IsClock}
use Rattle.calendar_values.specs.ClockLemmas.{clock_of_parts-of}
use Rattle.calendar_values.specs.DayLemmas.{IsOrdinalDate-of, day_of_ordinal_date-of, year_of-ordinal_date, ordinal_of-ordinal_date}
use Rattle.calendar_values.specs.OffsetPartLemmas.{seconds_of_parts-of}
use Rattle.calendar_values.specs.Offsets.{IsOffset, offset_hours_of, offset_minutes_of, offset_seconds_of}
use Rattle.calendar_values.specs.OrderLemmas.{int_cmp_agrees}
use Rattle.calendar_values.specs.SignedArith.{signed_arith}
use Rattle.calendar_values.specs.WallClock.{wall_clock, wall_day, wall_time}
use Rattle.calendar_values.specs.WallClockLemmas.{wall_clock-parts, IsClock-wall_time, wall_day-wall_clock, wall_time-wall_clock}
use Rattle.calendar_values.specs.YearLemmas.{year_start-later, year_start-mono, year_start-next, days_in_year_bounds}
use Rattle.offset_times.specs.Local.{Local, IsLocal, instant_of, shown_at, offset_nanos}
use Rattle.plain_times.specs.Packed.{IsParts, wall_clock_of_parts, packed_parts, packed_wall_clock}

-- dates that lie more than four days apart, were each year of 366, lie more than three apart
later_date : (y z : ℤ) (o p : ℕ) → IsOrdinalDate y o → IsOrdinalDate z p → pos 4 <ℤ ((y -ℤ z) *ℤ pos 366 +ℤ pos o -ℤ pos p) →
    (day_of_ordinal_date z p +ℤ pos 3) <ℤ day_of_ordinal_date y o
later_date y z o p h k far =
    by_lt_z z y
    (λ lt. by_lt_z (z +ℤ pos 1) y
    (λ more. omega (arith, signed_arith, year_start-later (z +ℤ pos 1) y more, year_start-next z, days_in_year_bounds z, h.first, k.last))
    (λ ge. let e : y ≡ z +ℤ pos 1 = omega (arith, signed_arith) in
    let next = rw (← e) at (year_start-next z) in
    omega (arith, signed_arith, next, days_in_year_bounds z)))
    (λ ge. by_lt_z y z
    (λ lt. absurd (omega (arith, signed_arith, days_in_year_bounds y, h.last, k.first)))
    (λ le. let e : y ≡ z = omega (arith, signed_arith) in rw e (omega (arith, signed_arith))))

-- and three days are more than two offsets lie apart
later_instant : (m n o p : ℤ) (c d : ℕ) → (m +ℤ pos 3) <ℤ n → IsClock d → IsOffset o → IsOffset p →
    (wall_clock m d -ℤ offset_nanos p) <ℤ (wall_clock n c -ℤ offset_nanos o)
later_instant m n o p c d far clock h k = omega (arith, signed_arith)

pub later_by_dates : (a b : Local) → IsLocal a → IsLocal b → pos 4 <ℤ ((year_of (wall_day a.wall) -ℤ year_of (wall_day b.wall)) *ℤ pos 366 +ℤ
    pos (ordinal_of (wall_day a.wall)) -ℤ pos (ordinal_of (wall_day b.wall))) → instant_of b <ℤ instant_of a
unfolding instant_of
later_by_dates a b h k far =
    let days = rw (day_of_ordinal_date-of (wall_day a.wall), day_of_ordinal_date-of (wall_day b.wall)) at
    (later_date _ _ _ _ (IsOrdinalDate-of (wall_day a.wall)) (IsOrdinalDate-of (wall_day b.wall)) far) in
    rw (wall_clock-parts a.wall, wall_clock-parts b.wall) at (later_instant (wall_day b.wall) (wall_day a.wall) a.offset b.offset (wall_time a.wall)
    (wall_time b.wall) days (IsClock-wall_time b.wall) h.1 k.1)

-- a number of the sign that tells the earlier from the later compares with 0 as they do
pub int_cmp-later : (d i j : ℤ) → pos 0 <ℤ d → j <ℤ i → int_cmp d (pos 0) ≡ int_cmp i j
int_cmp-later d i j sign later =
    int_cmp_agrees d (pos 0) i j (λ lt. absurd (omega (arith, ints))) (λ gt. later) (λ e. absurd (omega (arith, ints)))

pub int_cmp-earlier : (d i j : ℤ) → d <ℤ pos 0 → i <ℤ j → int_cmp d (pos 0) ≡ int_cmp i j
int_cmp-earlier d i j sign earlier =
    int_cmp_agrees d (pos 0) i j (λ lt. earlier) (λ gt. absurd (omega (arith, ints))) (λ e. absurd (omega (arith, ints)))

-- a day of a later place, were each year of 366, is later, whatever the clocks show
later_parts : (y z : ℤ) (o p c d : ℕ) → IsParts y o c → IsParts z p d → pos 0 <ℤ ((y -ℤ z) *ℤ pos 366 +ℤ pos o -ℤ pos p) →
    wall_clock_of_parts z p d <ℤ wall_clock_of_parts y o c
later_parts y z o p c d h k later =
    by_lt_z z y
    (λ more. omega (arith, signed_arith, year_start-mono (z +ℤ pos 1) y (omega (arith, signed_arith)), year_start-next z))
    (λ ge. by_lt_z y z
    (λ less. absurd (omega (arith, signed_arith, days_in_year_bounds y)))
    (λ le. let e : y ≡ z = omega (arith, signed_arith) in rw e (omega (arith, signed_arith))))

-- so the days decide
pub int_cmp-days : (s y z : ℤ) (o p c d : ℕ) → IsParts y o c → IsParts z p d → s ≡ (y -ℤ z) *ℤ pos 366 +ℤ pos o -ℤ pos p → (s ≡ pos 0 → ⊥) →
    int_cmp s (pos 0) ≡ int_cmp (wall_clock_of_parts y o c) (wall_clock_of_parts z p d)
int_cmp-days s y z o p c d h k e apart =
    int_cmp_agrees s (pos 0) (wall_clock_of_parts y o c) (wall_clock_of_parts z p d)
    (λ lt. later_parts z y p o d c k h (omega (arith, ints))) (λ gt. later_parts y z o p c d h k (omega (arith, ints))) (λ none. absurd (apart none))

-- and where there are none between, the clocks do
clocks_of_one_day : (m : ℤ) (c d : ℕ) → int_cmp (pos c -ℤ pos d) (pos 0) ≡ int_cmp (wall_clock m c) (wall_clock m d)
clocks_of_one_day m c d =
    int_cmp_agrees (pos c -ℤ pos d) (pos 0) (wall_clock m c) (wall_clock m d)
    (λ lt. omega (arith, ints)) (λ gt. omega (arith, ints)) (λ same. omega (arith, ints))

pub int_cmp-clocks : (s y z : ℤ) (o p c d : ℕ) → IsParts y o c → IsParts z p d → s ≡ (y -ℤ z) *ℤ pos 366 +ℤ pos o -ℤ pos p → s ≡ pos 0 →
    int_cmp (pos c -ℤ pos d) (pos 0) ≡ int_cmp (wall_clock_of_parts y o c) (wall_clock_of_parts z p d)
int_cmp-clocks s y z o p c d h k e none =
    let year : y ≡ z = omega (arith, signed_arith, days_in_year_bounds y, days_in_year_bounds z) in
    let ordinal : o ≡ p = omega (arith, signed_arith) in
    rw (year, ordinal) (clocks_of_one_day (day_of_ordinal_date z p) c d)

-- instants compare as what clocks at the offset of the first show
pub int_cmp-shown : (a b : Local) → int_cmp a.wall (shown_at (instant_of b) a.offset) ≡ int_cmp (instant_of a) (instant_of b)
unfolding instant_of
int_cmp-shown a b =
    int_cmp_agrees a.wall (shown_at (b.wall -ℤ offset_nanos b.offset) a.offset) (a.wall -ℤ offset_nanos a.offset) (b.wall -ℤ offset_nanos b.offset)
    (λ lt. omega (arith, ints)) (λ gt. omega (arith, ints)) (λ same. omega (arith, ints))

-- the nanoseconds between instants at which clocks show dates of one year, from the parts that clocks show, less those of the offsets
pub difference_within_year : (a b : Local) (d h m s f r : ℤ) → year_of (wall_day a.wall) ≡ year_of (wall_day b.wall) →
    d ≡ pos (ordinal_of (wall_day a.wall)) -ℤ pos (ordinal_of (wall_day b.wall)) →
    h ≡ (pos (hour_of (wall_time a.wall)) -ℤ offset_hours_of a.offset) -ℤ (pos (hour_of (wall_time b.wall)) -ℤ offset_hours_of b.offset) →
    m ≡ (pos (minute_of (wall_time a.wall)) -ℤ offset_minutes_of a.offset) -ℤ (pos (minute_of (wall_time b.wall)) -ℤ offset_minutes_of b.offset) →
    s ≡ (pos (second_of (wall_time a.wall)) -ℤ offset_seconds_of a.offset) -ℤ (pos (second_of (wall_time b.wall)) -ℤ offset_seconds_of b.offset) →
    f ≡ pos (nanosecond_of (wall_time a.wall)) -ℤ pos (nanosecond_of (wall_time b.wall)) →
    r ≡ (((d *ℤ pos 24 +ℤ h) *ℤ pos 60 +ℤ m) *ℤ pos 60 +ℤ s) *ℤ pos nanos_per_second +ℤ f → r ≡ instant_of a -ℤ instant_of b
unfolding instant_of
difference_within_year a b d h m s f r same days hours minutes seconds fraction sum =
    let start = ap year_start same in
    omega (
      arith,
      signed_arith,
      clock_of_parts-of (wall_time a.wall),
      clock_of_parts-of (wall_time b.wall),
      seconds_of_parts-of a.offset,
      seconds_of_parts-of b.offset,
      day_of_ordinal_date-of (wall_day a.wall),
      day_of_ordinal_date-of (wall_day b.wall),
      IsOrdinalDate-of (wall_day a.wall),
      IsOrdinalDate-of (wall_day b.wall),
      wall_clock-parts a.wall,
      wall_clock-parts b.wall,
    )

-- a difference compares with 0 as what it lies between
pub int_cmp-difference : (d i j : ℤ) → d ≡ i -ℤ j → int_cmp d (pos 0) ≡ int_cmp i j
int_cmp-difference d i j e = int_cmp_agrees d (pos 0) i j (λ lt. omega (arith, ints)) (λ gt. omega (arith, ints)) (λ same. omega (arith, ints))

-- the packed parts of a wall clock are its packed number
pub packed_parts-is : (w y : ℤ) (o c : ℕ) → IsOrdinalDate y o → IsClock c → wall_clock (day_of_ordinal_date y o) c ≡ w →
    packed_parts y o c ≡ packed_wall_clock w
unfolding packed_wall_clock
packed_parts-is w y o c date clock e =
    let day : wall_day w ≡ day_of_ordinal_date y o = rw (← e) (wall_day-wall_clock (day_of_ordinal_date y o) c clock) in
    let time : wall_time w ≡ c = rw (← e) (wall_time-wall_clock (day_of_ordinal_date y o) c clock) in
    let year : year_of (wall_day w) ≡ y = rw day (year_of-ordinal_date y o date) in
    let ordinal : ordinal_of (wall_day w) ≡ o = rw day (ordinal_of-ordinal_date y o date) in
    rw (year, ordinal, time)
