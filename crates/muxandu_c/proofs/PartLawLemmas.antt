-- Truncations, replaced parts and dates later on: the proofs of the laws of `specs/PartLaws.antt`.
use Rattle.std.proofs.Common.{◌≡◌, ◌∙◌, ◌*◌, ◌/◌, ◌<◌, ◌≤◌, ◌==◌, ◌||◌, ◌⊎◌, ℕ, Bool, true, false, nat_lt, inl, inr, refl, sym, ap, arith}
use Rattle.std.proofs.Common.{ℤ, pos, ◌+ℤ◌, ◌*ℤ◌, ◌≤ℤ◌, unsigned_abs, Result, Ok, Err}
use Rattle.std.specs.Prelude.{if◌then◌else◌, min}
use Rattle.std.proofs.lemmas.Bool.Decides.{nat_tests}
use Rattle.std.proofs.lemmas.Bool.{cases_Bool}
use Rattle.std.proofs.Math.Nat.{min-eq_left, min-eq_right}
use Rattle.std.proofs.lemmas.Int.{ints}
use Rattle.calendar_values.specs.Calendar.{year_of, month_of, day_of_month_of, is_leap_year, days_in_month, day_of_calendar_date, IsCalendarDate}
use Rattle.calendar_values.specs.CalendarDateLemmas.{IsOrdinalDate-date, ShowsDate-calendar_date, IsCalendarDate-of, days_in_month_bounds}
use Rattle.calendar_values.specs.Clock.{IsClock, AreTimeParts, clock_of_parts, hour_of, minute_of}
use Rattle.calendar_values.specs.Clock.{second_of, nanosecond_of, nanos_per_day, nanos_per_hour, nanos_per_minute}
use Rattle.calendar_values.specs.Clock.{nanos_per_second, nanos_per_millisecond, nanos_per_microsecond}
use Rattle.calendar_values.specs.ClockLemmas.{IsClock-clock_of_parts, hour_of-clock_of_parts, minute_of-clock_of_parts, second_of-clock_of_parts}
use Rattle.calendar_values.specs.ClockLemmas.{nanosecond_of-clock_of_parts, AreTimeParts-of}
use Rattle.calendar_values.specs.Constructors.{calendar_date, ordinal_date}
use Rattle.calendar_values.specs.Dates.{ShowsDate}
use Rattle.calendar_values.specs.Offsets.{IsOffset}
use Rattle.calendar_values.specs.DayLemmas.{IsDay-ordinal_date}
use Rattle.calendar_values.specs.OutcomeLemmas.{IsOneAnswer-calendar_date, IsOneAnswer-ordinal_date}
use Rattle.calendar_values.specs.Outcomes.{answer_within}
use Rattle.calendar_values.specs.Range.{IsDay, IsYear, is_outside, first_day, last_day, first_year, last_year}
use Rattle.calendar_values.specs.Refusals.{Refusal}
use Rattle.calendar_values.specs.SignedArith.{signed_arith}
use Rattle.calendar_values.specs.Truncations.{multiple_below}
use Rattle.calendar_values.specs.WallClock.{wall_day, wall_time, IsWallClock}
use Rattle.calendar_values.specs.WallClockLemmas.{IsClock-wall_time, IsWallClock-wall_clock, IsDay-wall_day}
use Rattle.offset_times.specs.InstantLemmas.{local_at-instant_of, shown_at-instant_of}
use Rattle.offset_times.specs.Local.{Local, instant_of, local_at, wall_at, at_offset_of, local_multiple_below}
use Rattle.plain_times.specs.Replacements.{with_date, with_time, wall_hour_outcome, wall_minute_outcome, wall_second_outcome, wall_nanosecond_outcome}
use Rattle.plain_times.specs.ReplacementLemmas.{wall_day-with_date, wall_time-with_date, wall_day-with_time, wall_time-with_time}
use Rattle.plain_times.specs.TruncationLemmas.{with_time-midnight, with_time-hour, with_time-minute}
use Rattle.plain_times.specs.TruncationLemmas.{with_time-second, with_time-millisecond, with_time-microsecond}
use Rattle.plain_times.specs.Truncations.{wall_multiple_below}
use Rattle.muxandu_c.proofs.InversionLemmas.{and_then-ok, as_refused-ok, same-value, tested-ok, limited-ok, fits_of}
use Rattle.muxandu_c.proofs.InversionLemmas.{date_value-ok, date_value-in, date_value-of}
use Rattle.muxandu_c.proofs.InversionLemmas.{date_time_value-ok, date_time_value-of, timestamp_value-ok, timestamp_value-of}
use Rattle.muxandu_c.proofs.InversionLemmas.{instant-ok, shown-ok, IsDateOf, IsReadAs}
use Rattle.muxandu_c.proofs.ReadBackLemmas.{date_time_from_timestamp-ok, date_time_from_timestamp-in, moments}
use Rattle.muxandu_c.specs.Answers.{and_then, as_refused}
use Rattle.muxandu_c.specs.DateSums.{date_add_months, month_index, year_of_index, month_of_index, year_if_any, day_or_last, months_later}
use Rattle.muxandu_c.specs.Moments.{moment_parts, date_time_of_moment, moment_of_date_time, date_of_date_time, on_date, timestamp_of_moment}
use Rattle.muxandu_c.specs.Moments.{moment_truncate, instant_truncate, moment_add_months}
use Rattle.muxandu_c.specs.PartLaws.{DigitsAreUnits, TruncationsClearParts, TruncationsAreThoseOfClocks, ReplacementsKeepOtherParts, ReplacementsAreThoseOfUtc}
use Rattle.muxandu_c.specs.PartLaws.{DaysAreAdded, LengthsOfMonths, IsMonthsLater, MonthsAreAdded}
use Rattle.muxandu_c.specs.PartsReplaced.{with_part, part_numbered, unsigned_part, date_time_replace}
use Rattle.muxandu_c.specs.Storage.{timestamp_with_digits}
use Rattle.muxandu_c.specs.Values.{date_time_truncate, timestamp_truncate, date_time_from_timestamp, day_from_date, day_from_ordinal_date, length_of_month}
use Rattle.muxandu_c.specs.Values.{date_parts, month_value, day_if_any, date_time_value, date_time_parts, timestamp_value, timestamp_parts}
use Rattle.muxandu_c.specs.Values.{unit_numbered, unit_nanos, as_date_time, as_timestamp, instant_if_any, shown_at_offset}
use Rattle.muxandu_c.specs.declared.moments.MuxanduMoment.{MuxanduMoment}
use Rattle.muxandu_c.specs.declared.refused.Refused.{Refused}
use Rattle.muxandu_c.specs.declared.refused.Refused.TheVariants as refused
use Rattle.muxandu_c.specs.declared.replacements.Part.{Part}
use Rattle.muxandu_c.specs.declared.replacements.Part.TheVariants as part
use Rattle.muxandu_c.specs.declared.unit.Unit.{Unit}
use Rattle.muxandu_c.specs.declared.unit.Unit.TheVariants as unit
use Rattle.muxandu_c.specs.declared.values.MuxanduDate.{MuxanduDate}
use Rattle.muxandu_c.specs.declared.values.MuxanduDateTime.{MuxanduDateTime}
use Rattle.muxandu_c.specs.declared.values.MuxanduTimestamp.{MuxanduTimestamp}

-- the parts of a wall clock at another time of day, and on another date
timed_parts : (w o : ℤ) (c h m s n : ℕ) → IsClock c → hour_of c ≡ h → minute_of c ≡ m → second_of c ≡ s → nanosecond_of c ≡ n
    → date_time_parts (wall_at (with_time w c) o) ≡ record (date_time_parts (wall_at w o)) { hour = h; minute = m; second = s; nanosecond = n }
timed_parts w o c h m s n clock hour minute second nanosecond =
    rw (wall_day-with_time w c clock, wall_time-with_time w c clock) (rw (hour, minute, second, nanosecond) refl)

dated_parts : (w o n : ℤ) (y : ℤ) (m d : ℕ) → ShowsDate y m d n
    → date_time_parts (wall_at (with_date w n) o) ≡ record (date_time_parts (wall_at w o)) { year = y; month = m; day = d }
dated_parts w o n y m d shows =
    rw (wall_day-with_date w n, wall_time-with_date w n) (rw (shows.month, shows.day, shows.year) refl)

-- a date-time that was truncated to a unit of so many nanoseconds
truncated-ok : (v u : MuxanduDateTime) (size : ℕ) → as_date_time (and_then (date_time_value v) (λ at. Ok (local_multiple_below size at))) ≡ Ok u
    → (at : Local) × ((date_time_parts at ≡ v) × (date_time_parts (wall_at (wall_multiple_below size at.wall) at.offset) ≡ u))
truncated-ok v u size e =
    let made = and_then-ok (and_then (date_time_value v) (λ (at : Local). Ok (local_multiple_below size at))) (λ (at : Local). Ok (date_time_parts at)) u e in
    let at = and_then-ok (date_time_value v) (λ (at : Local). Ok (local_multiple_below size at)) made.0 made.1 in
    (at.0, ((date_time_value-ok v at.0 at.1).parts, ap date_time_parts (same-value _ _ at.2) ∙ same-value _ _ made.2))

-- its parts, where its clock is the multiple of the unit below that of the wall clock
truncated : (v u : MuxanduDateTime) (size : ℕ) (clear : MuxanduDateTime → MuxanduDateTime)
    → ((w o : ℤ) → date_time_parts (wall_at (wall_multiple_below size w) o) ≡ clear (date_time_parts (wall_at w o)))
    → as_date_time (and_then (date_time_value v) (λ at. Ok (local_multiple_below size at))) ≡ Ok u → u ≡ clear v
truncated v u size clear clears e =
    let at = truncated-ok v u size e in
    sym at.1.1 ∙ clears at.0.wall at.0.offset ∙ ap clear at.1.0

cleared-day : (w o : ℤ) → date_time_parts (wall_at (wall_multiple_below 86_400_000_000_000 w) o)
    ≡ record (date_time_parts (wall_at w o)) { hour = 0; minute = 0; second = 0; nanosecond = 0 }
cleared-day w o =
    ap (λ (x : ℤ). date_time_parts (wall_at x o)) (sym (with_time-midnight w)) ∙ timed_parts w o 0 0 0 0 0 (omega arith) refl refl refl refl

cleared-hour : (w o : ℤ) → date_time_parts (wall_at (wall_multiple_below 3_600_000_000_000 w) o)
    ≡ record (date_time_parts (wall_at w o)) { minute = 0; second = 0; nanosecond = 0 }
cleared-hour w o =
    let c = wall_time w in
    let clock : IsClock c = IsClock-wall_time w in
    ap (λ (x : ℤ). date_time_parts (wall_at x o)) (sym (with_time-hour w))
    ∙ timed_parts w o (multiple_below nanos_per_hour c) _ _ _ _ (omega arith) (omega arith) (omega arith) (omega arith) (omega arith)

cleared-minute : (w o : ℤ) → date_time_parts (wall_at (wall_multiple_below 60_000_000_000 w) o)
    ≡ record (date_time_parts (wall_at w o)) { second = 0; nanosecond = 0 }
cleared-minute w o =
    let c = wall_time w in
    let clock : IsClock c = IsClock-wall_time w in
    ap (λ (x : ℤ). date_time_parts (wall_at x o)) (sym (with_time-minute w))
    ∙ timed_parts w o (multiple_below nanos_per_minute c) _ _ _ _ (omega arith) (omega arith) (omega arith) (omega arith) (omega arith)

cleared-second : (w o : ℤ) → date_time_parts (wall_at (wall_multiple_below 1_000_000_000 w) o) ≡ record (date_time_parts (wall_at w o)) { nanosecond = 0 }
cleared-second w o =
    let c = wall_time w in
    let clock : IsClock c = IsClock-wall_time w in
    ap (λ (x : ℤ). date_time_parts (wall_at x o)) (sym (with_time-second w))
    ∙ timed_parts w o (multiple_below nanos_per_second c) _ _ _ _ (omega arith) (omega arith) (omega arith) (omega arith) (omega arith)

cleared-millisecond : (w o : ℤ) → date_time_parts (wall_at (wall_multiple_below 1_000_000 w) o)
    ≡ record (date_time_parts (wall_at w o)) { nanosecond = nanosecond_of (wall_time w) / 1_000_000 * 1_000_000 }
cleared-millisecond w o =
    let c = wall_time w in
    let clock : IsClock c = IsClock-wall_time w in
    ap (λ (x : ℤ). date_time_parts (wall_at x o)) (sym (with_time-millisecond w))
    ∙ timed_parts w o (multiple_below nanos_per_millisecond c) _ _ _ _ (omega arith) (omega arith) (omega arith) (omega arith) (omega arith)

cleared-microsecond : (w o : ℤ) → date_time_parts (wall_at (wall_multiple_below 1_000 w) o)
    ≡ record (date_time_parts (wall_at w o)) { nanosecond = nanosecond_of (wall_time w) / 1_000 * 1_000 }
cleared-microsecond w o =
    let c = wall_time w in
    let clock : IsClock c = IsClock-wall_time w in
    ap (λ (x : ℤ). date_time_parts (wall_at x o)) (sym (with_time-microsecond w))
    ∙ timed_parts w o (multiple_below nanos_per_microsecond c) _ _ _ _ (omega arith) (omega arith) (omega arith) (omega arith) (omega arith)

cleared-nanosecond : (w o : ℤ) → date_time_parts (wall_at (wall_multiple_below 1 w) o) ≡ date_time_parts (wall_at w o)
unfolding wall_multiple_below
cleared-nanosecond w o = ap (λ (x : ℤ). date_time_parts (wall_at x o)) (omega (arith, signed_arith))

pub truncations : TruncationsClearParts
truncations = record {
  day = λ v u. truncated v u nanos_per_day (λ z. record z { hour = 0; minute = 0; second = 0; nanosecond = 0 }) cleared-day;
  hour = λ v u. truncated v u nanos_per_hour (λ z. record z { minute = 0; second = 0; nanosecond = 0 }) cleared-hour;
  minute = λ v u. truncated v u nanos_per_minute (λ z. record z { second = 0; nanosecond = 0 }) cleared-minute;
  second = λ v u. truncated v u nanos_per_second (λ z. record z { nanosecond = 0 }) cleared-second;
  millisecond = λ v u. truncated v u nanos_per_millisecond (λ z. record z { nanosecond = z.nanosecond / 1_000_000 * 1_000_000 }) cleared-millisecond;
  microsecond = λ v u. truncated v u nanos_per_microsecond (λ z. record z { nanosecond = z.nanosecond / 1_000 * 1_000 }) cleared-microsecond;
  nanosecond = λ v u. truncated v u 1 (λ z. z) cleared-nanosecond;
}

-- what clocks in UTC show of a timestamp
record IsInUtc (v : MuxanduTimestamp) (a : MuxanduDateTime) (i : ℤ) : Type 0 where
  value : timestamp_value v ≡ Ok i
  range : IsWallClock i
  shown : date_time_value a ≡ Ok (wall_at i (pos 0))

shown_in_utc : (i : ℤ) → local_at i (pos 0) ≡ wall_at i (pos 0)
shown_in_utc i = ap (λ (w : ℤ). wall_at w (pos 0)) (omega (arith, signed_arith))

utc_offset : IsOffset (pos 0)
utc_offset = (omega (arith, signed_arith), omega (arith, signed_arith))

in_utc : (v : MuxanduTimestamp) (a : MuxanduDateTime) → date_time_from_timestamp v (pos 0) ≡ Ok a → (i : ℤ) × IsInUtc v a i
in_utc v a e =
    let shown = date_time_from_timestamp-ok v (pos 0) a e in
    let i = shown.0 in
    let range = (timestamp_value-ok v i shown.1.value).range in
    let parts : date_time_parts (wall_at i (pos 0)) ≡ a = ap date_time_parts (sym (shown_in_utc i)) ∙ shown.1.parts in (
      i,
      record {
        value = shown.1.value;
        range = range;
        shown = ap date_time_value (sym parts) ∙ date_time_value-of (wall_at i (pos 0)) (range, utc_offset);
      },
    )

utc_parts : (j : ℤ) → IsWallClock j → date_time_from_timestamp (timestamp_parts j) (pos 0) ≡ Ok (date_time_parts (wall_at j (pos 0)))
utc_parts j h =
    date_time_from_timestamp-in (timestamp_parts j) j (pos 0) (timestamp_value-of j h) utc_offset (rw (ap (λ (l : Local). l.wall) (shown_in_utc j)) h)
    ∙ ap (λ (l : Local). Ok (date_time_parts l)) (shown_in_utc j)

-- a wall clock of the range, rounded down to a unit, is one
unit-in_range : (u : Unit) (w : ℤ) → IsWallClock w → IsWallClock (wall_multiple_below (unit_nanos u) w)
unfolding wall_multiple_below
unit-in_range unit.Day w h = (omega (arith, signed_arith, h.0), omega (arith, signed_arith, h.1))
unit-in_range unit.Hour w h = (omega (arith, signed_arith, h.0), omega (arith, signed_arith, h.1))
unit-in_range unit.Minute w h = (omega (arith, signed_arith, h.0), omega (arith, signed_arith, h.1))
unit-in_range unit.Second w h = (omega (arith, signed_arith, h.0), omega (arith, signed_arith, h.1))
unit-in_range unit.Millisecond w h = (omega (arith, signed_arith, h.0), omega (arith, signed_arith, h.1))
unit-in_range unit.Microsecond w h = (omega (arith, signed_arith, h.0), omega (arith, signed_arith, h.1))
unit-in_range unit.Nanosecond w h = (omega (arith, signed_arith, h.0), omega (arith, signed_arith, h.1))

truncations-timestamp : (v u : MuxanduTimestamp) (a : MuxanduDateTime) (number : ℕ) → timestamp_truncate v number ≡ Ok u
    → date_time_from_timestamp v (pos 0) ≡ Ok a → date_time_truncate a number ≡ date_time_from_timestamp u (pos 0)
truncations-timestamp v u a number e f =
    let utc = in_utc v a f in
    let i = utc.0 in
    let made = and_then-ok (and_then (timestamp_value v) (λ (i : ℤ). and_then (unit_numbered number) (λ (unit : Unit).
    Ok (wall_multiple_below (unit_nanos unit) i))))
    (λ (j : ℤ). Ok (timestamp_parts j)) u e in
    let at = and_then-ok (timestamp_value v) (λ (i : ℤ). and_then (unit_numbered number) (λ (unit : Unit).
    Ok (wall_multiple_below (unit_nanos unit) i))) made.0 made.1 in
    let unit = and_then-ok (unit_numbered number) (λ (unit : Unit). Ok (wall_multiple_below (unit_nanos unit) at.0)) made.0 at.2 in
    let same : at.0 ≡ i = same-value _ _ (sym at.1 ∙ utc.1.value) in
    let j = wall_multiple_below (unit_nanos unit.0) i in
    let is : timestamp_parts j ≡ u =
    ap (λ (z : ℤ). timestamp_parts (wall_multiple_below (unit_nanos unit.0) z)) (sym same)
    ∙ ap timestamp_parts (same-value _ _ unit.2) ∙ same-value _ _ made.2 in
    ap (λ (r : Result Local Refused). as_date_time (and_then r (λ (at : Local). and_then (unit_numbered number) (λ (unit : Unit).
    Ok (local_multiple_below (unit_nanos unit) at))))) utc.1.shown
    ∙ ap (λ (r : Result Unit Refused). as_date_time (and_then r (λ (unit : Unit). Ok (local_multiple_below (unit_nanos unit) (wall_at i (pos 0)))))) unit.1
    ∙ sym (utc_parts j (unit-in_range unit.0 i utc.1.range)) ∙ ap (λ (z : MuxanduTimestamp). date_time_from_timestamp z (pos 0)) is

truncations-moment : (v u : MuxanduMoment) (a : MuxanduDateTime) (number : ℕ) → moment_truncate number v ≡ Ok u → date_time_of_moment v ≡ Ok a
    → date_time_truncate a number ≡ date_time_of_moment u
truncations-moment v u a number e f =
    let o = v.offset_seconds in
    let shown = date_time_from_timestamp-ok (timestamp_of_moment v) o a f in
    let i = shown.0 in
    let at = local_at i o in
    let a_is : date_time_value a ≡ Ok at = ap date_time_value (sym shown.1.parts) ∙ date_time_value-of at (shown.1.shown.wall, shown.1.shown.offset) in
    let made = and_then-ok (and_then (timestamp_value (timestamp_of_moment v)) (instant_truncate number o)) (λ (j : ℤ). Ok (moment_parts o j)) u e in
    let instant = and_then-ok (timestamp_value (timestamp_of_moment v)) (instant_truncate number o) made.0 made.1 in
    let same : instant.0 ≡ i = same-value _ _ (sym instant.1 ∙ shown.1.value) in
    let wall = and_then-ok (shown_at_offset instant.0 o) (λ (at : Local). and_then (unit_numbered number) (λ (unit : Unit).
    instant_if_any (instant_of (local_multiple_below (unit_nanos unit) at)))) made.0 instant.2 in
    let unit = and_then-ok (unit_numbered number) (λ (unit : Unit).
    instant_if_any (instant_of (local_multiple_below (unit_nanos unit) wall.0))) made.0 wall.2 in
    let at_is : wall.0 ≡ at = (shown-ok instant.0 o wall.0 wall.1).is ∙ ap (λ (z : ℤ). local_at z o) same in
    let below = local_multiple_below (unit_nanos unit.0) at in
    let j = instant-ok _ made.0 unit.2 in
    let j_is : instant_of below ≡ made.0 = ap (λ (l : Local). instant_of (local_multiple_below (unit_nanos unit.0) l)) (sym at_is) ∙ j.1 in
    let u_is : moment_parts o (instant_of below) ≡ u = ap (moment_parts o) j_is ∙ same-value _ _ made.2 in
    ap (λ (r : Result Local Refused). as_date_time (and_then r (λ (at : Local). and_then (unit_numbered number) (λ (unit : Unit).
    Ok (local_multiple_below (unit_nanos unit) at))))) a_is
    ∙ ap (λ (r : Result Unit Refused). as_date_time (and_then r (λ (unit : Unit). Ok (local_multiple_below (unit_nanos unit) at)))) unit.1
    ∙ sym (shown_moment below (unit-in_range unit.0 at.wall shown.1.shown.wall) shown.1.shown.offset (rw (j.1 ∙ sym j_is) at j.0))
    ∙ ap date_time_of_moment u_is where
      shown_moment : (l : Local) → IsWallClock l.wall → IsOffset l.offset → IsWallClock (instant_of l)
          → date_time_of_moment (moment_parts l.offset (instant_of l)) ≡ Ok (date_time_parts l)
      shown_moment l wall offset range =
          date_time_from_timestamp-in _ (instant_of l) l.offset (timestamp_value-of (instant_of l) range) offset (rw (shown_at-instant_of l) wall)
          ∙ ap (λ (z : Local). Ok (date_time_parts z)) (local_at-instant_of l)

pub clock_truncations : TruncationsAreThoseOfClocks
clock_truncations = record { timestamp = truncations-timestamp; moment = truncations-moment }

-- a date of the library, and the day that it is
pub calendar_date-ok : (y : ℤ) (m d : ℕ) (n : ℤ) → 1 ≤ m → m ≤ 12 → calendar_date y m d ≡ Ok n → ShowsDate y m d n × IsDay n
calendar_date-ok y m d n first last e =
    let given = fits_of _ _ _ n (IsOneAnswer-calendar_date y m d).value e in
    let date : IsCalendarDate y m d = record { month_first = first; month_last = last; day_first = given.0.1.0; day_last = given.0.1.1 } in
    (rw given.1 (ShowsDate-calendar_date y m d date), rw given.1 (IsDay-ordinal_date y _ given.0.0 (IsOrdinalDate-date y m d date)))

-- an answer put on the same time of day, and one put on the same date
date-placed : (w x : ℤ) (r : Result ℤ Refusal) → as_refused (answer_within (with_date w) r) ≡ Ok x → (n : ℤ) × ((r ≡ Ok n) × (with_date w n ≡ x))
date-placed w x (Ok n) e = (n, (refl, same-value _ _ e))
date-placed w x (Err refusal) e = absurd cc

time-placed : (w x : ℤ) (r : Result ℕ Refusal) → as_refused (answer_within (with_time w) r) ≡ Ok x → (c : ℕ) × ((r ≡ Ok c) × (with_time w c ≡ x))
time-placed w x (Ok c) e = (c, (refl, same-value _ _ e))
time-placed w x (Err refusal) e = absurd cc

-- a part that the limit lets through
limited-part : (limit part : ℕ) (refusal : Refusal) (value c : ℕ) → (if nat_lt limit part then Err refusal else Ok value) ≡ Ok c → (part ≤ limit) × (value ≡ c)
limited-part limit part refusal value c e = choose (nat_lt limit part) refl e where
  choose : (t : Bool) → nat_lt limit part ≡ t → (if t then Err refusal else Ok value) ≡ Ok c → (part ≤ limit) × (value ≡ c)
  choose true same e = absurd cc
  choose false same e = (grind (arith, nat_tests), cc)

-- the parts of a time of day that was made of parts
made_parts : (w o : ℤ) (h m s n : ℕ) → AreTimeParts h m s n → date_time_parts (wall_at (with_time w (clock_of_parts h m s n)) o)
    ≡ record (date_time_parts (wall_at w o)) { hour = h; minute = m; second = s; nanosecond = n }
made_parts w o h m s n p =
    timed_parts w o _ h m s n (IsClock-clock_of_parts h m s n p) (hour_of-clock_of_parts h m s n p) (minute_of-clock_of_parts h m s n p)
    (second_of-clock_of_parts h m s n p) (nanosecond_of-clock_of_parts h m s n p)

-- the parts of a wall clock with a part replaced, and that it is one of the range
record IsReplaced (w o x : ℤ) (parts : MuxanduDateTime) : Type 0 where
  is : date_time_parts (wall_at x o) ≡ parts
  range : IsWallClock x

on_day : (w o n x y : ℤ) (m d : ℕ) → ShowsDate y m d n → IsDay n → with_date w n ≡ x
    → IsReplaced w o x (record (date_time_parts (wall_at w o)) { year = y; month = m; day = d })
unfolding with_date
on_day w o n x y m d shows range made =
    rw (← made) (record { is = dated_parts w o n y m d shows; range = IsWallClock-wall_clock n (wall_time w) (IsClock-wall_time w) range })

at_clock : (w o x : ℤ) (h m s n : ℕ) → IsWallClock w → AreTimeParts h m s n → with_time w (clock_of_parts h m s n) ≡ x
    → IsReplaced w o x (record (date_time_parts (wall_at w o)) { hour = h; minute = m; second = s; nanosecond = n })
unfolding with_time
at_clock w o x h m s n range p made =
    rw (← made) (record {
      is = made_parts w o h m s n p;
      range = IsWallClock-wall_clock (wall_day w) _ (IsClock-clock_of_parts h m s n p) (IsDay-wall_day w range);
    })

replaced-year : (w o x y : ℤ) → with_part w part.Year y ≡ Ok x → IsReplaced w o x (record (date_time_parts (wall_at w o)) { year = y })
replaced-year w o x y e =
    let day = date-placed w x _ e in
    let shown = IsCalendarDate-of (wall_day w) in
    let date = calendar_date-ok y _ _ day.0 shown.month_first shown.month_last day.1.0 in
    on_day w o day.0 x y _ _ date.0 date.1 day.1.1

replaced-month : (w o x : ℤ) (m : ℕ) → with_part w part.Month (pos m) ≡ Ok x → IsReplaced w o x (record (date_time_parts (wall_at w o)) { month = m })
replaced-month w o x m e =
    let number = and_then-ok (unsigned_part (pos m) 12 refused.Month) (λ (n : ℕ). and_then (month_value n) (λ (m : ℕ). as_refused (answer_within (with_date w)
    (calendar_date (year_of (wall_day w)) m (day_of_month_of (wall_day w)))))) x e in
    let m_is = (tested-ok (is_outside (pos 0) (pos 12) (pos m)) refused.Month m number.0 number.1).1 in
    let month = and_then-ok (month_value number.0) (λ (m : ℕ). as_refused (answer_within (with_date w)
    (calendar_date (year_of (wall_day w)) m (day_of_month_of (wall_day w))))) x number.2 in
    let tested = tested-ok (number.0 == 0 || nat_lt 12 number.0) refused.Month number.0 month.0 month.1 in
    dated (sym (m_is ∙ tested.1)) (month_bounds number.0 tested.0) tested.1 month.2 where
      month_bounds : (m : ℕ) → (m == 0 || nat_lt 12 m) ≡ false → (1 ≤ m) × (m ≤ 12)
      month_bounds m t = (grind (arith, nat_tests), grind (arith, nat_tests))

      dated : {k n : ℕ} → k ≡ m → (1 ≤ n) × (n ≤ 12) → n ≡ k
          → as_refused (answer_within (with_date w) (calendar_date (year_of (wall_day w)) k (day_of_month_of (wall_day w)))) ≡ Ok x
          → IsReplaced w o x (record (date_time_parts (wall_at w o)) { month = m })
      dated {k} {n} same bounds is made =
          let day = date-placed w x _ made in
          let date = calendar_date-ok (year_of (wall_day w)) k (day_of_month_of (wall_day w)) day.0 (rw (← is) bounds.0) (rw (← is) bounds.1) day.1.0 in
          rw (← same) (on_day w o day.0 x (year_of (wall_day w)) k (day_of_month_of (wall_day w)) date.0 date.1 day.1.1)

replaced-day : (w o x : ℤ) (d : ℕ) → with_part w part.Day (pos d) ≡ Ok x → IsReplaced w o x (record (date_time_parts (wall_at w o)) { day = d })
replaced-day w o x d e =
    let number = and_then-ok (unsigned_part (pos d) 31 refused.Day) (λ (k : ℕ). as_refused (answer_within (with_date w)
    (calendar_date (year_of (wall_day w)) (month_of (wall_day w)) k))) x e in
    let d_is = (tested-ok (is_outside (pos 0) (pos 31) (pos d)) refused.Day d number.0 number.1).1 in
    let day = date-placed w x _ number.2 in
    let shown = IsCalendarDate-of (wall_day w) in
    let date = calendar_date-ok (year_of (wall_day w)) (month_of (wall_day w)) number.0 day.0 shown.month_first shown.month_last day.1.0 in
    rw d_is (on_day w o day.0 x (year_of (wall_day w)) (month_of (wall_day w)) number.0 date.0 date.1 day.1.1)

replaced-ordinal : (w x : ℤ) (o : ℕ) → with_part w part.Ordinal (pos o) ≡ Ok x
    → (n : ℤ) × ((ordinal_date (year_of (wall_day w)) o ≡ Ok n) × IsDay n × (with_date w n ≡ x))
replaced-ordinal w x o e =
    let number = and_then-ok (unsigned_part (pos o) 366 refused.Ordinal) (λ (k : ℕ). as_refused (answer_within (with_date w)
    (ordinal_date (year_of (wall_day w)) k))) x e in
    let o_is = (tested-ok (is_outside (pos 0) (pos 366) (pos o)) refused.Ordinal o number.0 number.1).1 in
    let day = date-placed w x _ number.2 in
    let made : ordinal_date (year_of (wall_day w)) o ≡ Ok day.0 = ap (ordinal_date (year_of (wall_day w))) o_is ∙ day.1.0 in
    (day.0, (made, in_range (year_of (wall_day w)) o day.0 made, day.1.1)) where
      in_range : (y : ℤ) (o : ℕ) (n : ℤ) → ordinal_date y o ≡ Ok n → IsDay n
      in_range y o n e =
          let given = fits_of _ _ _ n (IsOneAnswer-ordinal_date y o).value e in
          rw given.1 (IsDay-ordinal_date y o given.0.0 (record { first = given.0.1.0; last = given.0.1.1 }))

-- a part of the time of day
replaced-hour : (w o x : ℤ) (h : ℕ) → IsWallClock w → with_part w part.Hour (pos h) ≡ Ok x
    → IsReplaced w o x (record (date_time_parts (wall_at w o)) { hour = h })
replaced-hour w o x h range e =
    let number = and_then-ok (unsigned_part (pos h) 23 refused.Hour) (λ (k : ℕ). as_refused (wall_hour_outcome w k).answer) x e in
    let h_is = (tested-ok (is_outside (pos 0) (pos 23) (pos h)) refused.Hour h number.0 number.1).1 in
    let clock = time-placed w x _ number.2 in
    let c = wall_time w in
    let limit = limited-part 23 number.0 _ _ clock.0 clock.1.0 in
    let kept = AreTimeParts-of c (IsClock-wall_time w) in
    rw h_is (at_clock w o x number.0 (minute_of c) (second_of c) (nanosecond_of c) range
    (record { hour = limit.0; minute = kept.minute; second = kept.second; nanosecond = kept.nanosecond }) (ap (with_time w) limit.1 ∙ clock.1.1))

replaced-minute : (w o x : ℤ) (m : ℕ) → IsWallClock w → with_part w part.Minute (pos m) ≡ Ok x
    → IsReplaced w o x (record (date_time_parts (wall_at w o)) { minute = m })
replaced-minute w o x m range e =
    let number = and_then-ok (unsigned_part (pos m) 59 refused.Minute) (λ (k : ℕ). as_refused (wall_minute_outcome w k).answer) x e in
    let m_is = (tested-ok (is_outside (pos 0) (pos 59) (pos m)) refused.Minute m number.0 number.1).1 in
    let clock = time-placed w x _ number.2 in
    let c = wall_time w in
    let limit = limited-part 59 number.0 _ _ clock.0 clock.1.0 in
    let kept = AreTimeParts-of c (IsClock-wall_time w) in
    rw m_is (at_clock w o x (hour_of c) number.0 (second_of c) (nanosecond_of c) range
    (record { hour = kept.hour; minute = limit.0; second = kept.second; nanosecond = kept.nanosecond }) (ap (with_time w) limit.1 ∙ clock.1.1))

replaced-second : (w o x : ℤ) (s : ℕ) → IsWallClock w → with_part w part.Second (pos s) ≡ Ok x
    → IsReplaced w o x (record (date_time_parts (wall_at w o)) { second = s })
replaced-second w o x s range e =
    let number = and_then-ok (unsigned_part (pos s) 59 refused.Second) (λ (k : ℕ). as_refused (wall_second_outcome w k).answer) x e in
    let s_is = (tested-ok (is_outside (pos 0) (pos 59) (pos s)) refused.Second s number.0 number.1).1 in
    let clock = time-placed w x _ number.2 in
    let c = wall_time w in
    let limit = limited-part 59 number.0 _ _ clock.0 clock.1.0 in
    let kept = AreTimeParts-of c (IsClock-wall_time w) in
    rw s_is (at_clock w o x (hour_of c) (minute_of c) number.0 (nanosecond_of c) range
    (record { hour = kept.hour; minute = kept.minute; second = limit.0; nanosecond = kept.nanosecond }) (ap (with_time w) limit.1 ∙ clock.1.1))

replaced-nanosecond : (w o x : ℤ) (n : ℕ) → IsWallClock w → with_part w part.Nanosecond (pos n) ≡ Ok x
    → IsReplaced w o x (record (date_time_parts (wall_at w o)) { nanosecond = n })
replaced-nanosecond w o x n range e =
    let number = and_then-ok (unsigned_part (pos n) 999_999_999 refused.Nanosecond) (λ (k : ℕ). as_refused (wall_nanosecond_outcome w k).answer) x e in
    let n_is = (tested-ok (is_outside (pos 0) (pos 999_999_999) (pos n)) refused.Nanosecond n number.0 number.1).1 in
    let clock = time-placed w x _ number.2 in
    let c = wall_time w in
    let limit = limited-part 999_999_999 number.0 _ _ clock.0 clock.1.0 in
    let kept = AreTimeParts-of c (IsClock-wall_time w) in
    rw n_is (at_clock w o x (hour_of c) (minute_of c) (second_of c) number.0 range
    (record { hour = kept.hour; minute = kept.minute; second = kept.second; nanosecond = limit.0 }) (ap (with_time w) limit.1 ∙ clock.1.1))

-- a date-time whose wall clock has a part replaced
replace-ok : (v w : MuxanduDateTime) (p : Part) (value : ℤ) → as_date_time (and_then (date_time_value v) (λ at. and_then (with_part at.wall p value) (λ x.
    Ok (at_offset_of at x)))) ≡ Ok w → (at : Local) × (x : ℤ)
    × (IsReadAs v at × (with_part at.wall p value ≡ Ok x) × (date_time_parts (wall_at x at.offset) ≡ w))
replace-ok v w p value e =
    let made = and_then-ok (and_then (date_time_value v) (λ (at : Local). and_then (with_part at.wall p value) (λ (x : ℤ). Ok (at_offset_of at x))))
    (λ (l : Local). Ok (date_time_parts l)) w e in
    let at = and_then-ok (date_time_value v) (λ (at : Local). and_then (with_part at.wall p value) (λ (x : ℤ). Ok (at_offset_of at x))) made.0 made.1 in
    let x = and_then-ok (with_part at.0.wall p value) (λ (x : ℤ). Ok (at_offset_of at.0 x)) made.0 at.2 in
    (at.0, x.0, (date_time_value-ok v at.0 at.1, x.1, ap date_time_parts (same-value _ _ x.2) ∙ same-value _ _ made.2))

-- the date-time with the part, where the part of its wall clock is replaced so
replaced : (v w : MuxanduDateTime) (p : Part) (value : ℤ) (put : MuxanduDateTime → MuxanduDateTime)
    → ((a o x : ℤ) → IsWallClock a → with_part a p value ≡ Ok x → IsReplaced a o x (put (date_time_parts (wall_at a o))))
    → as_date_time (and_then (date_time_value v) (λ at. and_then (with_part at.wall p value) (λ x. Ok (at_offset_of at x)))) ≡ Ok w → w ≡ put v
replaced v w p value put puts e =
    let step = replace-ok v w p value e in
    let at = step.0 in
    sym step.2.2 ∙ (puts at.wall at.offset step.1 step.2.0.range.0 step.2.1).is ∙ ap put step.2.0.parts

replaced-by_ordinal : (v w : MuxanduDateTime) (o : ℕ) → date_time_replace v 4 (pos o) ≡ Ok w
    → (w ≡ record v { year = w.year; month = w.month; day = w.day })
    × (day_from_date (date_of_date_time w) ≡ day_from_ordinal_date (record { year = v.year; ordinal = o }))
replaced-by_ordinal v w o e =
    let step = replace-ok v w part.Ordinal (pos o) e in
    let at = step.0 in
    let day = replaced-ordinal at.wall step.1 o step.2.1 in
    let n = day.0 in
    let shown : date_time_parts (wall_at step.1 at.offset) ≡ on_date (date_time_parts at) (date_parts n) =
    ap (λ (x : ℤ). date_time_parts (wall_at x at.offset)) (sym day.1.2)
    ∙ dated_parts at.wall at.offset n _ _ _ (record { year = refl; month = refl; day = refl }) in
    let is : w ≡ on_date v (date_parts n) = sym step.2.2 ∙ shown ∙ ap (λ (z : MuxanduDateTime). on_date z (date_parts n)) step.2.0.parts in
    let date : date_of_date_time w ≡ date_parts n = ap date_of_date_time is in
    let year : year_of (wall_day at.wall) ≡ v.year = ap (λ (z : MuxanduDateTime). z.year) step.2.0.parts in (
      is ∙ ap (on_date v) (sym date),
      ap day_from_date date ∙ date_value-of n day.1.1 ∙ sym (ap (λ (y : ℤ). as_refused (ordinal_date y o)) (sym year) ∙ ap as_refused day.1.0),
    )

pub replacements : ReplacementsKeepOtherParts
replacements = record {
  year = λ v w y. replaced v w part.Year y (λ z. record z { year = y }) (λ a o x h. replaced-year a o x y);
  month = λ v w m. replaced v w part.Month (pos m) (λ z. record z { month = m }) (λ a o x h. replaced-month a o x m);
  day = λ v w d. replaced v w part.Day (pos d) (λ z. record z { day = d }) (λ a o x h. replaced-day a o x d);
  ordinal = replaced-by_ordinal;
  hour = λ v w h. replaced v w part.Hour (pos h) (λ z. record z { hour = h }) (λ a o x. replaced-hour a o x h);
  minute = λ v w m. replaced v w part.Minute (pos m) (λ z. record z { minute = m }) (λ a o x. replaced-minute a o x m);
  second = λ v w s. replaced v w part.Second (pos s) (λ z. record z { second = s }) (λ a o x. replaced-second a o x s);
  nanosecond = λ v w n. replaced v w part.Nanosecond (pos n) (λ z. record z { nanosecond = n }) (λ a o x. replaced-nanosecond a o x n);
}

-- a part that has no sign is a number that has none
unsigned-ok : {B : Type 0} (value : ℤ) (limit : ℕ) (refusal : Refused) (next : ℕ → Result B Refused) (made : B)
    → and_then (unsigned_part value limit refusal) next ≡ Ok made → (n : ℕ) × (value ≡ pos n)
unsigned-ok {B} value limit refusal next made e =
    let n = and_then-ok (unsigned_part value limit refusal) next made e in
    (unsigned_abs value, not_negative value (tested-ok (is_outside (pos 0) (pos limit) value) refusal (unsigned_abs value) n.0 n.1).0) where
      not_negative : (z : ℤ) → is_outside (pos 0) (pos limit) z ≡ false → z ≡ pos (unsigned_abs z)
      not_negative z t = let low : pos 0 ≤ℤ z = grind (arith, ints) in omega (arith, signed_arith)

placed-in_range : (w n x : ℤ) → IsDay n → with_date w n ≡ x → IsWallClock x
unfolding with_date
placed-in_range w n x range made = rw (← made) (IsWallClock-wall_clock n (wall_time w) (IsClock-wall_time w) range)

with_part-in_range : (w x value : ℤ) (p : Part) → IsWallClock w → with_part w p value ≡ Ok x → IsWallClock x
with_part-in_range w x value part.Year h e = (replaced-year w (pos 0) x value e).range
with_part-in_range w x value part.Month h e =
    let n = unsigned-ok value 12 refused.Month _ x e in (replaced-month w (pos 0) x n.0 (rw n.1 at e)).range
with_part-in_range w x value part.Day h e =
    let n = unsigned-ok value 31 refused.Day _ x e in (replaced-day w (pos 0) x n.0 (rw n.1 at e)).range
with_part-in_range w x value part.Ordinal h e =
    let n = unsigned-ok value 366 refused.Ordinal _ x e in
    let day = replaced-ordinal w x n.0 (rw n.1 at e) in placed-in_range w day.0 x day.1.1 day.1.2
with_part-in_range w x value part.Hour h e =
    let n = unsigned-ok value 23 refused.Hour _ x e in (replaced-hour w (pos 0) x n.0 h (rw n.1 at e)).range
with_part-in_range w x value part.Minute h e =
    let n = unsigned-ok value 59 refused.Minute _ x e in (replaced-minute w (pos 0) x n.0 h (rw n.1 at e)).range
with_part-in_range w x value part.Second h e =
    let n = unsigned-ok value 59 refused.Second _ x e in (replaced-second w (pos 0) x n.0 h (rw n.1 at e)).range
with_part-in_range w x value part.Nanosecond h e =
    let n = unsigned-ok value 999_999_999 refused.Nanosecond _ x e in (replaced-nanosecond w (pos 0) x n.0 h (rw n.1 at e)).range

pub utc_replacements : ReplacementsAreThoseOfUtc
utc_replacements v u a number value e f =
    let utc = in_utc v a f in
    let i = utc.0 in
    let made = and_then-ok (and_then (timestamp_value v) (λ (i : ℤ). and_then (part_numbered number) (λ (p : Part). with_part i p value)))
    (λ (j : ℤ). Ok (timestamp_parts j)) u e in
    let at = and_then-ok (timestamp_value v) (λ (i : ℤ). and_then (part_numbered number) (λ (p : Part). with_part i p value)) made.0 made.1 in
    let p = and_then-ok (part_numbered number) (λ (p : Part). with_part at.0 p value) made.0 at.2 in
    let same : at.0 ≡ i = same-value _ _ (sym at.1 ∙ utc.1.value) in
    let x : with_part i p.0 value ≡ Ok made.0 = ap (λ (z : ℤ). with_part z p.0 value) (sym same) ∙ p.2 in
    ap (λ (r : Result Local Refused). as_date_time (and_then r (λ (at : Local). and_then (part_numbered number) (λ (p : Part).
    and_then (with_part at.wall p value) (λ (w : ℤ). Ok (at_offset_of at w)))))) utc.1.shown
    ∙ ap (λ (r : Result Part Refused). as_date_time (and_then r (λ (p : Part).
    and_then (with_part i p value) (λ (w : ℤ). Ok (wall_at w (pos 0)))))) p.1
    ∙ ap (λ (r : Result ℤ Refused). as_date_time (and_then r (λ (w : ℤ). Ok (wall_at w (pos 0))))) x
    ∙ sym (utc_parts made.0 (with_part-in_range i made.0 value p.0 utc.1.range x))
    ∙ ap (λ (z : MuxanduTimestamp). date_time_from_timestamp z (pos 0)) (same-value _ _ made.2)

-- a day number some days later
pub days_later : DaysAreAdded
days_later v w days n e f =
    let day = and_then-ok (day_from_date v) (λ (n : ℤ). and_then (day_if_any (n +ℤ days)) (λ (m : ℤ). Ok (date_parts m))) w e in
    let later = and_then-ok (day_if_any (day.0 +ℤ days)) (λ (m : ℤ). Ok (date_parts m)) w day.2 in
    let made = limited-ok first_day last_day (day.0 +ℤ days) later.0 refused.Result later.1 in
    let same : day.0 ≡ n = same-value _ _ (sym day.1 ∙ f) in
    let is : date_parts (day.0 +ℤ days) ≡ w = ap date_parts made.2 ∙ same-value _ _ later.2 in
    ap day_from_date (sym is) ∙ date_value-of (day.0 +ℤ days) (made.0, made.1) ∙ ap (λ (z : ℤ). Ok (z +ℤ days)) same

-- a month and its length
record IsLengthOf (y : ℤ) (m length : ℕ) : Type 0 where
  month_first : 1 ≤ m
  month_last : m ≤ 12
  year : IsYear y
  is : days_in_month (is_leap_year y) m ≡ length

length-ok : (y : ℤ) (m length : ℕ) → length_of_month y m ≡ Ok length → IsLengthOf y m length
length-ok y m length e =
    let month = and_then-ok (month_value m) (λ (k : ℕ). and_then (as_refused (calendar_date y k 1)) (λ (first : ℤ).
    Ok (days_in_month (is_leap_year y) k))) length e in
    let tested = tested-ok (m == 0 || nat_lt 12 m) refused.Month m month.0 month.1 in
    let first = and_then-ok (as_refused (calendar_date y month.0 1)) (λ (first : ℤ). Ok (days_in_month (is_leap_year y) month.0)) length month.2 in
    let given = fits_of _ _ _ first.0 (IsOneAnswer-calendar_date y month.0 1).value (as_refused-ok _ first.0 first.1) in
    record {
      month_first = grind (arith, nat_tests, tested.0);
      month_last = grind (arith, nat_tests, tested.0);
      year = given.0.0;
      is = ap (days_in_month (is_leap_year y)) tested.1 ∙ same-value _ _ first.2;
    }

lengths-each : (y : ℤ) (m length d : ℕ) → length_of_month y m ≡ Ok length → 1 ≤ d → d ≤ length
    → (n : ℤ) × (day_from_date (record { year = y; month = m; day = d }) ≡ Ok n)
lengths-each y m length d e low high =
    let h = length-ok y m length e in
    (day_of_calendar_date y m d, date_value-in y m d h.month_first h.month_last (h.year, (low, rw h.is high)))

lengths-only : (y n : ℤ) (m length d : ℕ) → length_of_month y m ≡ Ok length → day_from_date (record { year = y; month = m; day = d }) ≡ Ok n
    → (1 ≤ d) × (d ≤ length)
lengths-only y n m length d e f =
    let h = length-ok y m length e in
    let date = date_value-ok y m d n f in (date.fits.1.0, rw (← h.is) date.fits.1.1)

pub lengths : LengthsOfMonths
lengths = record { each = lengths-each; only = lengths-only }

-- the shorter of two lengths
min-cases : (d length : ℕ) → 1 ≤ d → 1 ≤ length
    → (1 ≤ min d length) × (min d length ≤ length) × ((min d length ≡ d) ⊎ ((min d length < d) × (length ≡ min d length)))
min-cases d length low some =
    elim (cases_Bool (nat_lt length d)) [
      | inl t ↦
          let below : length < d = grind (arith, nat_tests) in
          let is : min d length ≡ length = min-eq_right (omega arith) in
          (omega (arith, is), omega (arith, is), inr (omega (arith, is), sym is))
      | inr t ↦
          let at_most : d ≤ length = grind (arith, nat_tests) in
          let is : min d length ≡ d = min-eq_left at_most in
          (omega (arith, is), omega (arith, is), inl is)
    ]

-- the date some months later
months-date : (v w : MuxanduDate) (months : ℤ) → date_add_months v months ≡ Ok w → IsMonthsLater v months w
months-date v w months e =
    let start = and_then-ok (day_from_date v) (λ (n : ℤ). months_later v months) w e in
    let index = month_index v.year v.month +ℤ months in
    let year = and_then-ok (year_if_any (year_of_index index)) (λ (y : ℤ). day_or_last y (month_of_index index) v.day) w start.2 in
    let y_is = (tested-ok (is_outside first_year last_year (year_of_index index)) refused.Result (year_of_index index) year.0 year.1).1 in
    let length = and_then-ok (length_of_month year.0 (month_of_index index)) (λ (l : ℕ).
    Ok (record { year = year.0; month = month_of_index index; day = min v.day l })) w year.2 in
    later v.year v.month v.day year.0 (month_of_index index) length.0 months (date_value-ok v.year v.month v.day start.0 start.1)
    (counted v.year v.month months year.0 y_is) length.1 w (same-value _ _ length.2) where
      counted : (y : ℤ) (m : ℕ) (months year : ℤ) → year_of_index (month_index y m +ℤ months) ≡ year
          → (year *ℤ pos 12) +ℤ pos (month_of_index (month_index y m +ℤ months)) ≡ ((y *ℤ pos 12) +ℤ pos m) +ℤ months
      counted y m months year same = rw (← same) (omega (arith, signed_arith))

      later : (y : ℤ) (m d : ℕ) (year : ℤ) (month length : ℕ) (months : ℤ) {n : ℤ} → IsDateOf y m d n
          → (year *ℤ pos 12) +ℤ pos month ≡ ((y *ℤ pos 12) +ℤ pos m) +ℤ months → length_of_month year month ≡ Ok length
          → (w : MuxanduDate) → record { year = year; month = month; day = min d length } ≡ w
          → IsMonthsLater (record { year = y; month = m; day = d }) months w
      later y m d year month length months date count is w made =
          let h = length-ok year month length is in
          let bounds = days_in_month_bounds (is_leap_year year) month in
          let cases = min-cases d length date.fits.1.0 (omega (arith, bounds, h.is)) in
          rw (← made) (record {
            month = count;
            day = (elim cases.2 [ inl same ↦ inl same | inr less ↦ inr (less.0, is ∙ ap (λ (l : ℕ). Ok l) less.1) ]);
            is_date = lengths-each year month length (min d length) is cases.0 cases.1;
          })

months-moment : (v u : MuxanduMoment) (a : MuxanduDateTime) (months : ℤ) → moment_add_months months v ≡ Ok u → date_time_of_moment v ≡ Ok a
    → (date : MuxanduDate) × ((date_add_months (date_of_date_time a) months ≡ Ok date)
    × (date_time_of_moment u ≡ Ok (record a { year = date.year; month = date.month; day = date.day })))
months-moment v u a months e f =
    let at = and_then-ok (date_time_of_moment v) (λ (at : MuxanduDateTime). and_then (date_add_months (date_of_date_time at) months)
    (λ (date : MuxanduDate). moment_of_date_time (on_date at date))) u e in
    let same : at.0 ≡ a = same-value _ _ (sym at.1 ∙ f) in
    let date = and_then-ok (date_add_months (date_of_date_time at.0) months) (λ (date : MuxanduDate).
    moment_of_date_time (on_date at.0 date)) u at.2 in (
      date.0,
      (
        ap (λ (z : MuxanduDateTime). date_add_months (date_of_date_time z) months) (sym same) ∙ date.1,
        moments.moment (on_date a date.0) u (ap (λ (z : MuxanduDateTime). moment_of_date_time (on_date z date.0)) (sym same) ∙ date.2),
      ),
    )

pub months_later_too : MonthsAreAdded
months_later_too = record { date = months-date; moment = months-moment }

-- the first digits of a fraction, and the unit of the last of them
digits-rounded : (digits : ℕ) (unit : ℕ) → ((i : ℤ) → timestamp_with_digits digits i ≡ timestamp_parts (wall_multiple_below unit i)) → (r : Result ℤ Refused)
    → and_then r (λ i. Ok (timestamp_with_digits digits i)) ≡ as_timestamp (and_then r (λ i. Ok (wall_multiple_below unit i)))
digits-rounded digits unit same (Ok i) = ap (λ (v : MuxanduTimestamp). Ok v) (same i)
digits-rounded digits unit same (Err refusal) = refl

same_parts : (a b : ℤ) (n m : ℕ) → a ≡ b → n ≡ m
    → ◌≡◌ {A = MuxanduTimestamp} (record { seconds = a; nanoseconds = n }) (record { seconds = b; nanoseconds = m })
same_parts a b n m p q = rw (p, q) refl

digits-second : (i : ℤ) → timestamp_with_digits 0 i ≡ timestamp_parts (wall_multiple_below 1_000_000_000 i)
unfolding wall_multiple_below wall_time
digits-second i = same_parts _ _ _ _ (omega (arith, signed_arith)) (omega (arith, signed_arith))

digits-millisecond : (i : ℤ) → timestamp_with_digits 3 i ≡ timestamp_parts (wall_multiple_below 1_000_000 i)
unfolding wall_multiple_below wall_time
digits-millisecond i = same_parts _ _ _ _ (omega (arith, signed_arith)) (omega (arith, signed_arith))

digits-microsecond : (i : ℤ) → timestamp_with_digits 6 i ≡ timestamp_parts (wall_multiple_below 1_000 i)
unfolding wall_multiple_below wall_time
digits-microsecond i = same_parts _ _ _ _ (omega (arith, signed_arith)) (omega (arith, signed_arith))

digits-nanosecond : (i : ℤ) → timestamp_with_digits 9 i ≡ timestamp_parts (wall_multiple_below 1 i)
unfolding wall_multiple_below wall_time
digits-nanosecond i = same_parts _ _ _ _ (omega (arith, signed_arith)) (omega (arith, signed_arith))

pub digits : DigitsAreUnits
digits = record {
  second = λ v. digits-rounded 0 nanos_per_second digits-second (timestamp_value v);
  millisecond = λ v. digits-rounded 3 nanos_per_millisecond digits-millisecond (timestamp_value v);
  microsecond = λ v. digits-rounded 6 nanos_per_microsecond digits-microsecond (timestamp_value v);
  nanosecond = λ v. digits-rounded 9 1 digits-nanosecond (timestamp_value v);
}
