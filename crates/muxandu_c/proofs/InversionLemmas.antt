-- What a result that is a value says of the steps that lead to it, and of the parts that were read.
use Rattle.std.proofs.Common.{◌≡◌, ◌<◌, ◌≤◌, ◌==◌, ◌||◌, ℕ, Bool, true, false, nat_lt, refl, sym, ap, ◌∙◌, arith, codes, Result, Ok, Err, OkIff}
use Rattle.std.proofs.Common.{ℤ, ◌≤ℤ◌}
use Rattle.std.specs.Prelude.{if◌then◌else◌}
use Rattle.std.proofs.lemmas.Bool.Decides.{nat_tests}
use Rattle.std.proofs.lemmas.Int.{ints}
use Rattle.calendar_values.specs.Calendar.{year_of, month_of, day_of_month_of, day_of_calendar_date, is_leap_year, days_in_month, IsCalendarDate}
use Rattle.calendar_values.specs.CalendarDateLemmas.{IsCalendarDate-of, IsOrdinalDate-date, day_of_calendar_date-of, ShowsDate-calendar_date}
use Rattle.calendar_values.specs.Clock.{IsClock, AreTimeParts, clock_of_parts, hour_of, minute_of, second_of, nanosecond_of}
use Rattle.calendar_values.specs.ClockLemmas.{IsClock-clock_of_parts}
use Rattle.calendar_values.specs.ClockLemmas.{clock_of_parts-of, AreTimeParts-of}
use Rattle.calendar_values.specs.Constructors.{calendar_date, clock_time_nano, hms_nano_outcome}
use Rattle.calendar_values.specs.Dates.{ShowsDate}
use Rattle.calendar_values.specs.DayLemmas.{IsYear-year_of, IsDay-ordinal_date}
use Rattle.calendar_values.specs.Durations.{IsDuration, duration_of_parts, least_duration, greatest_duration}
use Rattle.calendar_values.specs.DurationPartLemmas.{duration_of_parts-of}
use Rattle.calendar_values.specs.Offsets.{IsOffset, offset_of_seconds}
use Rattle.calendar_values.specs.OutcomeLemmas.{IsOneAnswer-calendar_date, IsOneAnswer-clock, IsOneAnswer-offset_seconds}
use Rattle.calendar_values.specs.Outcomes.{IsOneAnswer}
use Rattle.calendar_values.specs.Range.{IsDay, first_year, last_year, is_outside}
use Rattle.calendar_values.specs.Refusals.{Refusal, IsDateOfRange}
use Rattle.calendar_values.specs.WallClock.{wall_clock, wall_day, wall_time, first_wall_clock, last_wall_clock, IsWallClock, IsInstant, unix_seconds_of}
use Rattle.calendar_values.specs.WallClockLemmas.{wall_day-wall_clock, wall_clock-parts, IsClock-wall_time, IsDay-wall_day}
use Rattle.calendar_values.specs.WallClockLemmas.{IsWallClock-wall_clock}
use Rattle.calendar_values.specs.SignedArith.{signed_arith}
use Rattle.offset_times.specs.Local.{Local, IsLocal, local_at, shown_at, wall_at}
use Rattle.stamp_times.specs.Instants.{instant_of_parts, unix_nanosecond_of}
use Rattle.stamp_times.specs.Refusals.{timestamp_of_parts, parts_refusal}
use Rattle.stamp_times.specs.TimestampLemmas.{instant_of_parts-of, unix_seconds_of-parts, unix_nanosecond_of-parts}
use Rattle.utc_times.specs.UnixTime.{instant_of_second}
use Rattle.muxandu_c.proofs.AnswerLemmas.{date_time_parts-of, date_time_value-of as date_time_value-of_parts}
use Rattle.muxandu_c.specs.Answers.{and_then, as_refused}
use Rattle.muxandu_c.specs.Values.{month_value, date_value, date_time_value, date_time_parts, timestamp_value, timestamp_parts}
use Rattle.muxandu_c.specs.Values.{duration_value, duration_parts, instant_if_any, local_if_any, shown_at_offset}
use Rattle.muxandu_c.specs.declared.refused.Refused.{Refused}
use Rattle.muxandu_c.specs.declared.refused.Refused.TheVariants as refused
use Rattle.muxandu_c.specs.declared.values.MuxanduDateTime.{MuxanduDateTime}
use Rattle.muxandu_c.specs.declared.values.MuxanduDuration.{MuxanduDuration}
use Rattle.muxandu_c.specs.declared.values.MuxanduTimestamp.{MuxanduTimestamp}

-- two steps that lead to a value
pub and_then-ok : {A B : Type 0} (r : Result A Refused) (next : A → Result B Refused) (value : B)
    → and_then r next ≡ Ok value → (x : A) × (r ≡ Ok x) × (next x ≡ Ok value)
and_then-ok (Ok x) next value e = (x, refl, e)
and_then-ok (Err refusal) next value e = absurd cc

pub as_refused-ok : {A : Type 0} (r : Result A Refusal) (value : A) → as_refused r ≡ Ok value → r ≡ Ok value
as_refused-ok {A} (Ok x) value e = let same : x ≡ value = cc in ap (λ (z : A). Ok z) same
as_refused-ok (Err refusal) value e = absurd cc

-- two results of one value
pub same-value : {A : Type 0} (x y : A) → ◌≡◌ {A = Result A Refused} (Ok x) (Ok y) → x ≡ y
same-value x y e = cc

-- a value that a test lets through
pub tested-ok : {A : Type 0} (fails : Bool) (refusal : Refused) (x value : A)
    → (if fails then Err refusal else Ok x) ≡ Ok value → (fails ≡ false) × (x ≡ value)
tested-ok true refusal x value e = absurd cc
tested-ok false refusal x value e = (refl, cc)

-- a month, a year and a day of the month that make the date of a day
pub record IsDateOf (y : ℤ) (m d : ℕ) (n : ℤ) : Type 0 where
  pub month_first : 1 ≤ m
  pub month_last : m ≤ 12
  pub fits : IsDateOfRange y m d
  pub day : n ≡ day_of_calendar_date y m d
  pub shows : ShowsDate y m d n
  pub in_range : IsDay n

is_date : (y : ℤ) (m d : ℕ) → 1 ≤ m → m ≤ 12 → IsDateOfRange y m d → IsCalendarDate y m d
is_date y m d first last fits = record { month_first = first; month_last = last; day_first = fits.1.0; day_last = fits.1.1 }

pub date_value-ok : (y : ℤ) (m d : ℕ) (n : ℤ) → date_value y m d ≡ Ok n → IsDateOf y m d n
date_value-ok y m d n e =
    let month = and_then-ok (month_value m) (λ (z : ℕ). as_refused (calendar_date y z d)) n e in
    let number = tested-ok (m == 0 || nat_lt 12 m) refused.Month m month.0 month.1 in
    let day : calendar_date y m d ≡ Ok n = as_refused-ok _ n (rw (← number.1) at month.2) in
    let given = rw day at (IsOneAnswer-calendar_date y m d) in
    let first : 1 ≤ m = grind (arith, nat_tests, number.0) in
    let last : m ≤ 12 = grind (arith, nat_tests, number.0) in
    let date = is_date y m d first last given.value.0 in
    record {
      month_first = first;
      month_last = last;
      fits = given.value.0;
      day = given.value.1;
      shows = rw given.value.1 (ShowsDate-calendar_date y m d date);
      in_range = rw given.value.1 (IsDay-ordinal_date y _ given.value.0.0 (IsOrdinalDate-date y m d date));
    }

-- the error of a month is that of no other number
month_value-in : (m : ℕ) → 1 ≤ m → m ≤ 12 → (m == 0 || nat_lt 12 m) ≡ false
month_value-in m first last = grind (arith, nat_tests)

pub date_value-in : (y : ℤ) (m d : ℕ) → 1 ≤ m → m ≤ 12 → IsDateOfRange y m d → date_value y m d ≡ Ok (day_of_calendar_date y m d)
unfolding calendar_date
date_value-in y m d first last fits =
    let inside : (is_outside first_year last_year y || (d == 0 || nat_lt (days_in_month (is_leap_year y) m) d)) ≡ false =
    grind (arith, nat_tests, ints, fits) in
    rw (month_value-in m first last, inside) refl

-- each day of the range is that of its date
pub date_value-of : (n : ℤ) → IsDay n → date_value (year_of n) (month_of n) (day_of_month_of n) ≡ Ok n
date_value-of n h =
    let date = IsCalendarDate-of n in
    date_value-in (year_of n) (month_of n) (day_of_month_of n) date.month_first date.month_last (IsYear-year_of n h, (date.day_first, date.day_last))
    ∙ ap (λ (z : ℤ). Ok z) (day_of_calendar_date-of n)

-- a number between two ends
pub inside : (first last n : ℤ) → first ≤ℤ n → n ≤ℤ last → is_outside first last n ≡ false
inside first last n low high = grind (arith, ints)

pub between : (first last n : ℤ) → is_outside first last n ≡ false → (first ≤ℤ n) × (n ≤ℤ last)
between first last n e = (grind (arith, ints), grind (arith, ints))

-- a number that a test lets through
pub limited-ok : (first last n value : ℤ) (refusal : Refused) → (if is_outside first last n then Err refusal else Ok n) ≡ Ok value
    → (first ≤ℤ n) × (n ≤ℤ last) × (n ≡ value)
limited-ok first last n value refusal e =
    let made = tested-ok (is_outside first last n) refusal n value e in
    let ends = between first last n made.0 in (ends.0, ends.1, made.1)

pub limited-in : (first last n : ℤ) (refusal : Refused) → first ≤ℤ n → n ≤ℤ last → (if is_outside first last n then Err refusal else Ok n) ≡ Ok n
limited-in first last n refusal low high = rw (inside first last n low high) refl

-- an answer of the library is a value exactly where its arguments fit
pub fits_of : {A : Type 0} (answer : Result A Refusal) (fits : Type 0) (value x : A) → OkIff answer fits value → answer ≡ Ok x → fits × (x ≡ value)
fits_of {A} (Ok y) fits value x h e = let same : y ≡ x = cc in (h.0, sym same ∙ h.1)
fits_of {A} (Err refusal) fits value x h e = absurd cc

pub value_of : {A : Type 0} (answer : Result A Refusal) (fits : Type 0) (value : A) → OkIff answer fits value → fits → answer ≡ Ok value
value_of {A} (Ok y) fits value h f = ap (λ (z : A). Ok z) h.1
value_of {A} (Err refusal) fits value h f = absurd (h f)

-- an offset that was read
pub offset-ok : (seconds o : ℤ) → as_refused (offset_of_seconds seconds) ≡ Ok o → IsOffset seconds × (o ≡ seconds)
offset-ok seconds o e = fits_of _ _ _ o (IsOneAnswer-offset_seconds seconds).value (as_refused-ok _ o e)

pub offset-in : (o : ℤ) → IsOffset o → as_refused (offset_of_seconds o) ≡ Ok o
offset-in o h = ap as_refused (value_of _ _ o (IsOneAnswer-offset_seconds o).value h)

-- a time of day that was read
pub clock_answers : (h m s n : ℕ) → IsOneAnswer (hms_nano_outcome h m s n)
clock_answers h m s n = IsOneAnswer-clock h m s (codes "nanosecond") 999_999_999 n n (λ f. (λ g. g, λ g. g))

pub clock-ok : (h m s n c : ℕ) → as_refused (clock_time_nano h m s n) ≡ Ok c → AreTimeParts h m s n × (c ≡ clock_of_parts h m s n)
clock-ok h m s n c e = fits_of _ _ _ c (clock_answers h m s n).value (as_refused-ok _ c e)

-- a date-time that was read has its parts, which are those of no other wall clock and offset
pub record IsReadAs (v : MuxanduDateTime) (at : Local) : Type 0 where
  pub range : IsLocal at
  pub parts : date_time_parts at ≡ v
  pub day : date_value v.year v.month v.day ≡ Ok (wall_day at.wall)

pub date_time_value-ok : (v : MuxanduDateTime) (at : Local) → date_time_value v ≡ Ok at → IsReadAs v at
date_time_value-ok v at e =
    let date = and_then-ok (date_value v.year v.month v.day) (λ (n : ℤ).
    and_then (as_refused (clock_time_nano v.hour v.minute v.second v.nanosecond)) (λ (c : ℕ).
    and_then (as_refused (offset_of_seconds v.offset_seconds)) (λ (o : ℤ). Ok (wall_at (wall_clock n c) o)))) at e in
    let time = and_then-ok (as_refused (clock_time_nano v.hour v.minute v.second v.nanosecond)) (λ (c : ℕ).
    and_then (as_refused (offset_of_seconds v.offset_seconds)) (λ (o : ℤ). Ok (wall_at (wall_clock date.0 c) o))) at date.2 in
    let offset = and_then-ok (as_refused (offset_of_seconds v.offset_seconds)) (λ (o : ℤ). Ok (wall_at (wall_clock date.0 time.0) o)) at time.2 in
    read_as v at date.0 time.0 offset.0 (date_value-ok _ _ _ _ date.1) date.1 (clock-ok _ _ _ _ _ time.1) (offset-ok _ _ offset.1)
    (sym (same-value _ _ offset.2)) where
      read_as : (v : MuxanduDateTime) (at : Local) (n : ℤ) (c : ℕ) (o : ℤ) → IsDateOf v.year v.month v.day n → date_value v.year v.month v.day ≡ Ok n
          → AreTimeParts v.hour v.minute v.second v.nanosecond × (c ≡ clock_of_parts v.hour v.minute v.second v.nanosecond)
          → IsOffset v.offset_seconds × (o ≡ v.offset_seconds) → at ≡ wall_at (wall_clock n c) o → IsReadAs v at
      read_as v at n c o date is_day time offset made =
          let clock : IsClock c = rw time.1 (IsClock-clock_of_parts v.hour v.minute v.second v.nanosecond time.0) in
          let day : wall_day (wall_clock n c) ≡ n = wall_day-wall_clock n c clock in
          rw made (record {
            range = (IsWallClock-wall_clock n c clock date.in_range, rw offset.1 offset.0);
            parts = sym (date_time_parts-of v v.year v.offset_seconds n c o _ refl refl date.shows time.0 time.1 offset.1 refl);
            day = rw day is_day;
          })

pub date_time_value-of : (at : Local) → IsLocal at → date_time_value (date_time_parts at) ≡ Ok at
date_time_value-of at h =
    let day = wall_day at.wall in
    let clock = wall_time at.wall in
    let time : clock_time_nano (hour_of clock) (minute_of clock) (second_of clock) (nanosecond_of clock) ≡ Ok clock =
    value_of _ _ _ (clock_answers _ _ _ _).value (AreTimeParts-of clock (IsClock-wall_time at.wall)) ∙ ap (λ (c : ℕ). Ok c) (clock_of_parts-of clock) in
    sym (date_time_value-of_parts (date_time_parts at) _ _ day clock at.offset at refl refl (sym (date_value-of day (IsDay-wall_day at.wall h.0)))
    (sym time) (sym (offset-in at.offset h.1)) (ap (λ (w : ℤ). wall_at w at.offset) (sym (wall_clock-parts at.wall))))

-- a timestamp that was read is the only one of its instant
pub record IsTimestampOf (v : MuxanduTimestamp) (i : ℤ) : Type 0 where
  pub range : IsInstant i
  pub parts : timestamp_parts i ≡ v
  pub instant : i ≡ instant_of_parts v.seconds v.nanoseconds

pub timestamp_value-ok : (v : MuxanduTimestamp) (i : ℤ) → timestamp_value v ≡ Ok i → IsTimestampOf v i
unfolding timestamp_of_parts
timestamp_value-ok v i e =
    let made = refusal-tested (is_outside first_wall_clock last_wall_clock (instant_of_second v.seconds) || nat_lt 999_999_999 v.nanoseconds)
    (parts_refusal v.seconds) (instant_of_parts v.seconds v.nanoseconds) i (as_refused-ok _ i e) in
    let low : v.nanoseconds < 1_000_000_000 = grind (arith, nat_tests, made.0) in
    let second : is_outside first_wall_clock last_wall_clock (instant_of_second v.seconds) ≡ false = grind (arith, ints, made.0) in
    let ends = between first_wall_clock last_wall_clock _ second in
    read_as v.seconds v.nanoseconds i low ends.0 ends.1 (sym made.1) where
      refusal-tested : (fails : Bool) (refusal : Refusal) (x value : ℤ) → (if fails then Err refusal else Ok x) ≡ Ok value → (fails ≡ false) × (x ≡ value)
      refusal-tested true refusal x value e = absurd cc
      refusal-tested false refusal x value e = (refl, cc)

      read_as : (s : ℤ) (n : ℕ) (i : ℤ) → n < 1_000_000_000 → first_wall_clock ≤ℤ instant_of_second s → instant_of_second s ≤ℤ last_wall_clock
          → i ≡ instant_of_parts s n → IsTimestampOf (record { seconds = s; nanoseconds = n }) i
      read_as s n i low first last is = rw is (record {
        range = (omega (arith, signed_arith), omega (arith, signed_arith));
        parts = rw (unix_seconds_of-parts s n low, unix_nanosecond_of-parts s n low) refl;
        instant = refl;
      })

pub timestamp_value-of : (i : ℤ) → IsInstant i → timestamp_value (timestamp_parts i) ≡ Ok i
unfolding timestamp_of_parts
timestamp_value-of i h =
    let low : unix_nanosecond_of i < 1_000_000_000 = omega (arith, signed_arith) in
    let first : first_wall_clock ≤ℤ instant_of_second (unix_seconds_of i) = omega (arith, signed_arith, h.0) in
    let last : instant_of_second (unix_seconds_of i) ≤ℤ last_wall_clock = omega (arith, signed_arith, h.1) in
    let second = inside first_wall_clock last_wall_clock _ first last in
    let nanosecond : nat_lt 999_999_999 (unix_nanosecond_of i) ≡ false = grind (arith, nat_tests) in
    rw (second, nanosecond) (ap (λ (z : ℤ). as_refused (Ok z)) (instant_of_parts-of i))

-- a duration that was read
pub record IsDurationOf (w : MuxanduDuration) (d : ℤ) : Type 0 where
  pub range : IsDuration d
  pub sum : d ≡ duration_of_parts w.seconds w.nanoseconds

pub duration_value-ok : (w : MuxanduDuration) (d : ℤ) → duration_value w ≡ Ok d → IsDurationOf w d
duration_value-ok w d e =
    let made = limited-ok least_duration greatest_duration (duration_of_parts w.seconds w.nanoseconds) d refused.Duration e in
    record { range = rw (← made.2) (made.0, made.1); sum = sym made.2 }

pub duration_value-in : (w : MuxanduDuration) → IsDuration (duration_of_parts w.seconds w.nanoseconds)
    → duration_value w ≡ Ok (duration_of_parts w.seconds w.nanoseconds)
duration_value-in w h = limited-in least_duration greatest_duration _ refused.Duration h.0 h.1

pub duration_value-of : (d : ℤ) → IsDuration d → duration_value (duration_parts d) ≡ Ok d
duration_value-of d h = duration_value-in (duration_parts d) (rw (duration_of_parts-of d) h) ∙ ap (λ (z : ℤ). Ok z) (duration_of_parts-of d)

-- an instant or a wall clock that the range has
pub instant-ok : (i value : ℤ) → instant_if_any i ≡ Ok value → IsWallClock i × (i ≡ value)
instant-ok i value e = let made = limited-ok first_wall_clock last_wall_clock i value refused.Result e in ((made.0, made.1), made.2)

pub instant-in : (i : ℤ) → IsWallClock i → instant_if_any i ≡ Ok i
instant-in i h = limited-in first_wall_clock last_wall_clock i refused.Result h.0 h.1

pub local-ok : (wall o : ℤ) (at : Local) → local_if_any wall o ≡ Ok at → IsWallClock wall × (wall_at wall o ≡ at)
local-ok wall o at e =
    let made = and_then-ok (instant_if_any wall) (λ (shown : ℤ). Ok (wall_at shown o)) at e in
    let shown = instant-ok wall made.0 made.1 in (shown.0, ap (λ (w : ℤ). wall_at w o) shown.1 ∙ same-value _ _ made.2)

pub local-in : (wall o : ℤ) → IsWallClock wall → local_if_any wall o ≡ Ok (wall_at wall o)
local-in wall o h = ap (λ (r : Result ℤ Refused). and_then r (λ (shown : ℤ). Ok (wall_at shown o))) (instant-in wall h)

-- what clocks at an offset show
pub record IsShownAt (i o : ℤ) (at : Local) : Type 0 where
  pub offset : IsOffset o
  pub wall : IsWallClock (shown_at i o)
  pub is : at ≡ local_at i o

pub shown-ok : (i o : ℤ) (at : Local) → shown_at_offset i o ≡ Ok at → IsShownAt i o at
shown-ok i o at e =
    let offset = and_then-ok (as_refused (offset_of_seconds o)) (λ (z : ℤ). local_if_any (shown_at i z) z) at e in
    let range = offset-ok o offset.0 offset.1 in
    let local = local-ok (shown_at i offset.0) offset.0 at offset.2 in
    let same = range.1 in
    record { offset = range.0; wall = rw (← same) local.0; is = sym local.1 ∙ ap (local_at i) same }

pub shown-in : (i o : ℤ) → IsOffset o → IsWallClock (shown_at i o) → shown_at_offset i o ≡ Ok (local_at i o)
shown-in i o offset wall =
    ap (λ (r : Result ℤ Refused). and_then r (λ (z : ℤ). local_if_any (shown_at i z) z)) (offset-in o offset) ∙ local-in (shown_at i o) o wall
