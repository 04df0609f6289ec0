-- Values that cross and come back: the proofs of the laws of `specs/ReadBackLaws.antt`.
use Rattle.std.proofs.Common.{ℕ, ◌≡◌, ◌∙◌, inl, inr, refl, sym, ap, arith, ℤ, pos, ◌+ℤ◌, ◌-ℤ◌, ◌≤ℤ◌, Result, Ok}
use Rattle.std.specs.Prelude.{FitsSigned, neg_ℤ}
use Rattle.std.specs.Int.{w64}
use Rattle.std.proofs.lemmas.Int.{ints}
use Rattle.calendar_values.specs.Calendar.{year_of, ordinal_of, julian_day_of, epoch_julian_day, IsOrdinalDate}
use Rattle.calendar_values.specs.Constructors.{julian_date}
use Rattle.calendar_values.specs.Dates.{ShowsDate}
use Rattle.calendar_values.specs.DayLemmas.{IsOrdinalDate-of, IsYear-year_of, IsDay-ordinal_date}
use Rattle.calendar_values.specs.DayLemmas.{day_of_ordinal_date-of, year_of-ordinal_date, ordinal_of-ordinal_date}
use Rattle.calendar_values.specs.DurationPartLemmas.{whole_seconds_of-parts, subsec_nanoseconds_of-parts}
use Rattle.calendar_values.specs.Offsets.{IsOffset, AreSignedOffsetParts, seconds_of_parts}
use Rattle.calendar_values.specs.Offsets.{seconds_of_signed_parts, offset_of_parts, offset_of_seconds, with_sign_of}
use Rattle.calendar_values.specs.Offsets.{offset_hours_of, offset_minutes_of, offset_seconds_of}
use Rattle.calendar_values.specs.OffsetPartLemmas.{seconds_of_parts-of, AreSignedOffsetParts-of}
use Rattle.calendar_values.specs.OffsetPartLemmas.{offset_hours_of-parts, offset_minutes_of-parts, offset_seconds_of-parts}
use Rattle.calendar_values.specs.OutcomeLemmas.{IsOneAnswer-ordinal_date, IsOneAnswer-julian_date, IsOneAnswer-offset}
use Rattle.calendar_values.specs.Range.{IsDay, first_day, last_day}
use Rattle.calendar_values.specs.Refusals.{Refusal}
use Rattle.calendar_values.specs.SignedArith.{signed_arith}
use Rattle.calendar_values.specs.WallClock.{wall_day, IsWallClock, first_wall_clock, last_wall_clock}
use Rattle.calendar_values.specs.Weeks.{weekday_of, iso_year_of, iso_week_of}
use Rattle.offset_times.specs.InstantLemmas.{instant_of-local_at, local_at-instant_of}
use Rattle.offset_times.specs.Local.{Local, instant_of, local_at, shown_at}
use Rattle.stamp_times.specs.Instants.{instant_of_milliseconds, instant_of_microseconds, unix_milliseconds_of, unix_microseconds_of}
use Rattle.plain_times.specs.Truncations.{wall_multiple_below}
use Rattle.utc_times.specs.UnixTime.{instant_of_second}
use Rattle.calendar_values.specs.ClockLemmas.{hour_of-clock_of_parts, minute_of-clock_of_parts, second_of-clock_of_parts, nanosecond_of-clock_of_parts}
use Rattle.muxandu_c.proofs.InversionLemmas.{clock-ok, and_then-ok, as_refused-ok, same-value, limited-ok, limited-in, fits_of, value_of}
use Rattle.muxandu_c.proofs.InversionLemmas.{date_value-ok, date_value-of, date_time_value-ok, date_time_value-of, timestamp_value-ok, timestamp_value-of}
use Rattle.muxandu_c.proofs.InversionLemmas.{duration_value-ok, duration_value-of, instant-ok, instant-in, shown-ok, shown-in, offset-ok, offset-in}
use Rattle.muxandu_c.proofs.InversionLemmas.{IsShownAt}
use Rattle.muxandu_c.proofs.WeekDateLemmas.{week_date_from_day-reads_back, day_from_week_date-reads_back}
use Rattle.muxandu_c.specs.Answers.{and_then, as_refused}
use Rattle.muxandu_c.specs.Clocks.{time_value}
use Rattle.muxandu_c.specs.FullTimes.{time_parts}
use Rattle.muxandu_c.specs.LocalTexts.{time_of}
use Rattle.muxandu_c.specs.Moments.{moment_parts, as_moment, date_time_of_moment, moment_of_date_time, timestamp_of_moment}
use Rattle.muxandu_c.specs.OffsetParts.{offset_from_parts, offset_to_parts, offset_as_refused}
use Rattle.muxandu_c.specs.ReadBackLaws.{TimesReadBack, DatesReadBack, OrdinalDatesReadBack, WeekDatesReadBack, JulianDaysReadBack, DateReadsAgree}
use Rattle.muxandu_c.specs.ReadBackLaws.{TimestampsReadBack, DateTimesReadBack, DurationsReadBack, OffsetsReadBack}
use Rattle.muxandu_c.specs.ReadBackLaws.{CountsReadBack, CountsRoundDown, ShownTimestampsReadBack, MomentsReadBack}
use Rattle.muxandu_c.specs.Reads.{date_reads, date_from_julian_day, reads_of}
use Rattle.muxandu_c.specs.Storage.{timestamp_from_microseconds_2000, timestamp_to_microseconds_2000, seconds_to_2000, microseconds_to_2000}
use Rattle.muxandu_c.specs.Values.{date_from_day, day_from_date, ordinal_date_from_day, day_from_ordinal_date, day_value, date_parts}
use Rattle.muxandu_c.specs.Values.{date_time_value, date_time_parts, timestamp_value, timestamp_parts, shown_at_offset, instant_if_any}
use Rattle.muxandu_c.specs.Values.{as_date_time, as_timestamp, date_time_from_timestamp, timestamp_from_date_time, date_time_instant, date_time_day}
use Rattle.muxandu_c.specs.Values.{timestamp_from_milliseconds, timestamp_to_milliseconds, timestamp_to_microseconds, timestamp_to_nanoseconds}
use Rattle.muxandu_c.specs.Values.{timestamp_truncate, count_if_any, in_64_bits}
use Rattle.muxandu_c.specs.declared.local_date_times.MuxanduTime.{MuxanduTime}
use Rattle.muxandu_c.specs.declared.moments.MuxanduMoment.{MuxanduMoment}
use Rattle.muxandu_c.specs.declared.offsets.MuxanduOffset.{MuxanduOffset}
use Rattle.muxandu_c.specs.declared.reads.MuxanduDateReads.{MuxanduDateReads}
use Rattle.muxandu_c.specs.declared.refused.Refused.{Refused}
use Rattle.muxandu_c.specs.declared.refused.Refused.TheVariants as refused
use Rattle.muxandu_c.specs.declared.values.MuxanduDate.{MuxanduDate}
use Rattle.muxandu_c.specs.declared.values.MuxanduDateTime.{MuxanduDateTime}
use Rattle.muxandu_c.specs.declared.values.MuxanduOrdinalDate.{MuxanduOrdinalDate}
use Rattle.muxandu_c.specs.declared.values.MuxanduTimestamp.{MuxanduTimestamp}

-- a day number that was read is one of the range
day-ok : {B : Type 0} (n : ℤ) (make : ℤ → B) (v : B) → and_then (day_value n) (λ (day : ℤ). Ok (make day)) ≡ Ok v → IsDay n × (make n ≡ v)
day-ok {B} n make v e =
    let day = and_then-ok (day_value n) (λ (z : ℤ). Ok (make z)) v e in
    let range = limited-ok first_day last_day n day.0 refused.DayNumber day.1 in
    ((range.0, range.1), ap make range.2 ∙ same-value _ _ day.2)

day-in : {B : Type 0} (n : ℤ) (make : ℤ → B) → IsDay n → and_then (day_value n) (λ (day : ℤ). Ok (make day)) ≡ Ok (make n)
day-in {B} n make h =
    ap (λ (r : Result ℤ Refused). and_then r (λ (z : ℤ). Ok (make z))) (limited-in first_day last_day n refused.DayNumber h.0 h.1)

-- a date is that of its day
pub date_parts-of : (v : MuxanduDate) (n : ℤ) → ShowsDate v.year v.month v.day n → date_parts n ≡ v
date_parts-of v n shows = rw (shows.month, shows.day, shows.year) refl

dates-day : (n : ℤ) (v : MuxanduDate) → date_from_day n ≡ Ok v → day_from_date v ≡ Ok n
dates-day n v e = let made = day-ok n date_parts v e in rw (← made.1) (date_value-of n made.0)

dates-date : (v : MuxanduDate) (n : ℤ) → day_from_date v ≡ Ok n → date_from_day n ≡ Ok v
dates-date v n e =
    let date = date_value-ok v.year v.month v.day n e in
    day-in n date_parts date.in_range ∙ ap (λ (z : MuxanduDate). Ok z) (date_parts-of v n date.shows)

pub dates : DatesReadBack
dates = record { date = dates-day; day = dates-date }

-- the same of a year and a day of the year
abbrev ordinal_parts : ℤ → MuxanduOrdinalDate
ordinal_parts n = record { year = year_of n; ordinal = ordinal_of n }

ordinal_dates-day : (n : ℤ) (v : MuxanduOrdinalDate) → ordinal_date_from_day n ≡ Ok v → day_from_ordinal_date v ≡ Ok n
ordinal_dates-day n v e =
    let made = day-ok n ordinal_parts v e in
    let place = IsOrdinalDate-of n in
    rw (← made.1) (ap as_refused (value_of _ _ _ (IsOneAnswer-ordinal_date (year_of n) (ordinal_of n)).value
    (IsYear-year_of n made.0, (place.first, place.last)) ∙ ap (λ (z : ℤ). Ok z) (day_of_ordinal_date-of n)))

ordinal_dates-date : (v : MuxanduOrdinalDate) (n : ℤ) → day_from_ordinal_date v ≡ Ok n → ordinal_date_from_day n ≡ Ok v
ordinal_dates-date v n e =
    let given = fits_of _ _ _ n (IsOneAnswer-ordinal_date v.year v.ordinal).value (as_refused-ok _ n e) in
    let date : IsOrdinalDate v.year v.ordinal = record { first = given.0.1.0; last = given.0.1.1 } in
    rw given.1 (day-in _ ordinal_parts (IsDay-ordinal_date v.year v.ordinal given.0.0 date)
    ∙ rw (year_of-ordinal_date v.year v.ordinal date, ordinal_of-ordinal_date v.year v.ordinal date) refl)

pub ordinal_dates : OrdinalDatesReadBack
ordinal_dates = record { date = ordinal_dates-day; day = ordinal_dates-date }

-- the same of an ISO year, an ISO week and a day of the week
pub week_dates : WeekDatesReadBack
week_dates = record {
  date = λ n v e. rw e at (week_date_from_day-reads_back n);
  day = λ v n e. rw e at (day_from_week_date-reads_back v);
}

-- the day of a Julian day
julian-ok : (j : ℤ) (v : MuxanduDate) → date_from_julian_day j ≡ Ok v → IsDay (j -ℤ epoch_julian_day) × (date_parts (j -ℤ epoch_julian_day) ≡ v)
julian-ok j v e =
    let day = and_then-ok (as_refused (julian_date j)) (λ (n : ℤ). Ok (date_parts n)) v e in
    let given = fits_of _ _ _ day.0 (IsOneAnswer-julian_date j).value (as_refused-ok _ day.0 day.1) in
    (given.0, ap date_parts (sym given.1) ∙ same-value _ _ day.2)

julian-in : (j : ℤ) → IsDay (j -ℤ epoch_julian_day) → date_from_julian_day j ≡ Ok (date_parts (j -ℤ epoch_julian_day))
julian-in j h = ap (λ (r : Result ℤ Refusal). and_then (as_refused r) (λ (n : ℤ). Ok (date_parts n))) (value_of _ _ _ (IsOneAnswer-julian_date j).value h)

-- the Julian day of a day has the date of the day
julian-back : (j n : ℤ) (v : MuxanduDate) → j -ℤ epoch_julian_day ≡ n → IsDay n → ShowsDate v.year v.month v.day n → date_from_julian_day j ≡ Ok v
julian-back j n v same h shows =
    julian-in j (rw same h) ∙ ap (λ (z : ℤ). Ok (date_parts z)) same ∙ ap (λ (z : MuxanduDate). Ok z) (date_parts-of v n shows)

julian_days-date : (j : ℤ) (v : MuxanduDate) → date_from_julian_day j ≡ Ok v → (r : MuxanduDateReads) × (date_reads v ≡ Ok r) × (r.julian_day ≡ j)
julian_days-date j v e =
    let made = julian-ok j v e in
    let n = j -ℤ epoch_julian_day in
    let day : day_from_date v ≡ Ok n = rw (← made.1) (date_value-of n made.0) in
    (reads_of n, ap (λ (r : Result ℤ Refused). and_then r (λ (z : ℤ). Ok (reads_of z))) day, omega (arith, signed_arith))

julian_days-reads : (v : MuxanduDate) (r : MuxanduDateReads) → date_reads v ≡ Ok r → DateReadsAgree v r
julian_days-reads v r e =
    let day = and_then-ok (day_from_date v) (λ (n : ℤ). Ok (reads_of n)) r e in
    let n = day.0 in
    let date = date_value-ok v.year v.month v.day n day.1 in
    let julian : julian_day_of n -ℤ epoch_julian_day ≡ n = omega (arith, signed_arith) in
    rw (← same-value _ _ day.2) (record {
      day = day.1;
      julian_day = julian-back (julian_day_of n) n v julian date.in_range date.shows;
      ordinal = day-in n ordinal_parts date.in_range ∙ rw date.shows.year refl;
      week = day-in n (λ (z : ℤ). record { year = iso_year_of z; week = iso_week_of z; weekday = weekday_of z }) date.in_range;
      weekday = day-in n weekday_of date.in_range;
    })

pub julian_days : JulianDaysReadBack
julian_days = record { date = julian_days-date; reads = julian_days-reads }

pub timestamps : TimestampsReadBack
timestamps = record { written = timestamp_value-of; read = λ v i e. (timestamp_value-ok v i e).parts }

date_times-day : (v : MuxanduDateTime) (n : ℤ) → date_time_day v ≡ Ok n → date_from_day n ≡ Ok (record { year = v.year; month = v.month; day = v.day })
date_times-day v n e =
    let at = and_then-ok (date_time_value v) (λ (at : Local). Ok (wall_day at.wall)) n e in
    dates-date _ n ((date_time_value-ok v at.0 at.1).day ∙ at.2)

pub date_times : DateTimesReadBack
date_times = record { written = date_time_value-of; read = λ v at e. (date_time_value-ok v at e).parts; day = date_times-day }

pub durations : DurationsReadBack
durations = record {
  written = duration_value-of;
  read = λ w d one_sign e. rw (duration_value-ok w d e).sum
      (rw (whole_seconds_of-parts w.seconds w.nanoseconds one_sign, subsec_nanoseconds_of-parts w.seconds w.nanoseconds one_sign) refl);
}

-- parts of one sign make their sum
with_sign-not_negative : (greater part : ℤ) → pos 0 ≤ℤ greater → pos 0 ≤ℤ part → with_sign_of greater part ≡ part
with_sign-not_negative greater part g p = grind (arith, ints)

with_sign-not_positive : (greater part : ℤ) → greater ≤ℤ pos 0 → part ≤ℤ pos 0 → with_sign_of greater part ≡ part
with_sign-not_positive greater part g p = grind (arith, ints)

seconds_of_signed_parts-is : (h m s : ℤ) → AreSignedOffsetParts h m s → seconds_of_signed_parts h m s ≡ seconds_of_parts h m s
seconds_of_signed_parts-is h m s p =
    elim p.one_sign [
      | inl q ↦ rw (with_sign-not_negative m s q.1 q.2, with_sign-not_negative h m q.0 q.1, with_sign-not_negative h s q.0 q.2) refl
      | inr q ↦ rw (with_sign-not_positive m s q.1 q.2, with_sign-not_positive h m q.0 q.1, with_sign-not_positive h s q.0 q.2) refl
    ]

offset_value : (h m s : ℤ) → AreSignedOffsetParts h m s → offset_of_parts h m s ≡ Ok (seconds_of_parts h m s)
offset_value h m s p =
    value_of _ _ _ (IsOneAnswer-offset h m s).value (p.hours_in_range, p.minutes_in_range, p.seconds_in_range)
    ∙ ap (λ (z : ℤ). Ok z) (seconds_of_signed_parts-is h m s p)

abbrev shown_parts : ℤ → MuxanduOffset
shown_parts o = record { hours = offset_hours_of o; minutes = offset_minutes_of o; seconds = offset_seconds_of o }

offsets-parts : (seconds : ℤ) (v : MuxanduOffset) → offset_to_parts seconds ≡ Ok v → offset_from_parts v ≡ Ok seconds
offsets-parts seconds v e =
    let offset = and_then-ok (as_refused (offset_of_seconds seconds)) (λ (o : ℤ). Ok (shown_parts o)) v e in
    let range = offset-ok seconds offset.0 offset.1 in
    let made : shown_parts seconds ≡ v = ap shown_parts (sym range.1) ∙ same-value _ _ offset.2 in
    rw (← made) (ap offset_as_refused (offset_value _ _ _ (AreSignedOffsetParts-of seconds range.0) ∙ ap (λ (z : ℤ). Ok z) (seconds_of_parts-of seconds)))

offsets-seconds : (v : MuxanduOffset) (seconds : ℤ) → AreSignedOffsetParts v.hours v.minutes v.seconds → offset_from_parts v ≡ Ok seconds
    → offset_to_parts seconds ≡ Ok v
offsets-seconds v seconds p e =
    let sum : seconds_of_parts v.hours v.minutes v.seconds ≡ seconds =
    same-value _ _ (sym (ap offset_as_refused (offset_value v.hours v.minutes v.seconds p)) ∙ e) in
    let range : IsOffset (seconds_of_parts v.hours v.minutes v.seconds) = in_range v.hours v.minutes v.seconds p in
    rw (← sum) (ap (λ (r : Result ℤ Refused). and_then r (λ (o : ℤ). Ok (shown_parts o))) (offset-in _ range)
    ∙ rw (offset_hours_of-parts _ _ _ p, offset_minutes_of-parts _ _ _ p, offset_seconds_of-parts _ _ _ p) refl) where
      in_range : (h m s : ℤ) → AreSignedOffsetParts h m s → IsOffset (seconds_of_parts h m s)
      in_range h m s p = (
        omega (arith, signed_arith, p.hours_in_range, p.minutes_in_range, p.seconds_in_range),
        omega (arith, signed_arith, p.hours_in_range, p.minutes_in_range, p.seconds_in_range),
      )

pub offsets : OffsetsReadBack
offsets = record { parts = offsets-parts; seconds = offsets-seconds }

-- a count that fits
fits-in : (count : ℤ) → FitsSigned w64 count → in_64_bits count ≡ Ok count
fits-in count h =
    limited-in (neg_ℤ (pos 9_223_372_036_854_775_808)) (pos 9_223_372_036_854_775_807) count refused.Result
    (omega (arith, signed_arith)) (omega (arith, signed_arith))

fits-ok : (count value : ℤ) → in_64_bits count ≡ Ok value → FitsSigned w64 count × (count ≡ value)
fits-ok count value e =
    let made = limited-ok (neg_ℤ (pos 9_223_372_036_854_775_808)) (pos 9_223_372_036_854_775_807) count value refused.Result e in
    (omega (arith, signed_arith, made.0, made.1), made.2)

-- the count of the instant of a timestamp
count-of : (i : ℤ) (count : ℤ → Result ℤ Refused) → IsWallClock i → and_then (timestamp_value (timestamp_parts i)) count ≡ count i
count-of i count h = ap (λ (r : Result ℤ Refused). and_then r count) (timestamp_value-of i h)

counts-milliseconds : (count : ℤ) (v : MuxanduTimestamp) → timestamp_from_milliseconds count ≡ Ok v → timestamp_to_milliseconds v ≡ Ok count
counts-milliseconds count v e =
    let at = and_then-ok (count_if_any (instant_of_milliseconds count)) (λ (i : ℤ). Ok (timestamp_parts i)) v e in
    let made = limited-ok first_wall_clock last_wall_clock _ at.0 refused.Timestamp at.1 in
    let is : timestamp_parts (instant_of_milliseconds count) ≡ v = ap timestamp_parts made.2 ∙ same-value _ _ at.2 in
    rw (← is) (count-of _ (λ (i : ℤ). Ok (unix_milliseconds_of i)) (made.0, made.1) ∙ ap (λ (z : ℤ). Ok z) (again count)) where
      again : (count : ℤ) → unix_milliseconds_of (instant_of_milliseconds count) ≡ count
      again count = omega (arith, signed_arith)

counts-microseconds : (count : ℤ) → FitsSigned w64 count → timestamp_to_microseconds (timestamp_parts (instant_of_microseconds count)) ≡ Ok count
counts-microseconds count h =
    let again : unix_microseconds_of (instant_of_microseconds count) ≡ count = omega (arith, signed_arith) in
    count-of _ (λ (i : ℤ). in_64_bits (unix_microseconds_of i)) (omega (arith, signed_arith), omega (arith, signed_arith))
    ∙ ap in_64_bits again ∙ fits-in count h

counts-nanoseconds : (count : ℤ) → FitsSigned w64 count → timestamp_to_nanoseconds (timestamp_parts count) ≡ Ok count
counts-nanoseconds count h = count-of count in_64_bits (omega (arith, signed_arith), omega (arith, signed_arith)) ∙ fits-in count h

counts-from_2000 : (count : ℤ) → FitsSigned w64 count → timestamp_to_microseconds_2000 (timestamp_from_microseconds_2000 count) ≡ Ok count
counts-from_2000 count h =
    let again : unix_microseconds_of (instant_of_microseconds count +ℤ instant_of_second seconds_to_2000) -ℤ microseconds_to_2000 ≡ count =
    omega (arith, signed_arith) in
    count-of _ (λ (i : ℤ). in_64_bits (unix_microseconds_of i -ℤ microseconds_to_2000)) (omega (arith, signed_arith), omega (arith, signed_arith))
    ∙ ap in_64_bits again ∙ fits-in count h

pub counts : CountsReadBack
counts = record { milliseconds = counts-milliseconds; microseconds = counts-microseconds; nanoseconds = counts-nanoseconds; from_2000 = counts-from_2000 }

-- a timestamp rounded down to a millisecond, and to a microsecond
rounded : (v : MuxanduTimestamp) (i : ℤ) (unit : ℤ → ℤ) → timestamp_value v ≡ Ok i
    → as_timestamp (and_then (timestamp_value v) (λ (z : ℤ). Ok (unit z))) ≡ Ok (timestamp_parts (unit i))
rounded v i unit e = ap (λ (r : Result ℤ Refused). as_timestamp (and_then r (λ (z : ℤ). Ok (unit z)))) e

milliseconds_below : (v : MuxanduTimestamp) (i count : ℤ) → first_wall_clock ≤ℤ i → i ≤ℤ last_wall_clock → unix_milliseconds_of i ≡ count
    → timestamp_from_milliseconds count ≡ Ok (timestamp_parts (wall_multiple_below 1_000_000 i))
unfolding wall_multiple_below
milliseconds_below v i count low high same =
    rw (← same) (ap as_timestamp (limited-in first_wall_clock last_wall_clock _ refused.Timestamp (omega (arith, signed_arith)) (omega (arith, signed_arith))))

microseconds_below : (i count : ℤ) → unix_microseconds_of i ≡ count → wall_multiple_below 1_000 i ≡ instant_of_microseconds count
unfolding wall_multiple_below
microseconds_below i count same = omega (arith, signed_arith)

microseconds_below-2000 : (i count : ℤ) → unix_microseconds_of i -ℤ microseconds_to_2000 ≡ count
    → wall_multiple_below 1_000 i ≡ instant_of_microseconds count +ℤ instant_of_second seconds_to_2000
unfolding wall_multiple_below
microseconds_below-2000 i count same = omega (arith, signed_arith)

rounds-milliseconds : (v : MuxanduTimestamp) (count : ℤ) → timestamp_to_milliseconds v ≡ Ok count → timestamp_from_milliseconds count ≡ timestamp_truncate v 5
rounds-milliseconds v count e =
    let at = and_then-ok (timestamp_value v) (λ (i : ℤ). Ok (unix_milliseconds_of i)) count e in
    let range = (timestamp_value-ok v at.0 at.1).range in
    let same = same-value _ _ at.2 in
    milliseconds_below v at.0 count range.0 range.1 same ∙ sym (rounded v at.0 (wall_multiple_below 1_000_000) at.1)

rounds-microseconds : (v : MuxanduTimestamp) (count : ℤ) → timestamp_to_microseconds v ≡ Ok count
    → timestamp_truncate v 6 ≡ Ok (timestamp_parts (instant_of_microseconds count))
rounds-microseconds v count e =
    let at = and_then-ok (timestamp_value v) (λ (i : ℤ). in_64_bits (unix_microseconds_of i)) count e in
    rounded v at.0 (wall_multiple_below 1_000) at.1 ∙ ap (λ (i : ℤ). Ok (timestamp_parts i)) (microseconds_below at.0 count (fits-ok _ count at.2).1)

rounds-nanoseconds : (v : MuxanduTimestamp) (count : ℤ) → timestamp_to_nanoseconds v ≡ Ok count → timestamp_parts count ≡ v
rounds-nanoseconds v count e =
    let at = and_then-ok (timestamp_value v) in_64_bits count e in
    ap timestamp_parts (sym (fits-ok at.0 count at.2).1) ∙ (timestamp_value-ok v at.0 at.1).parts

rounds-from_2000 : (v : MuxanduTimestamp) (count : ℤ) → timestamp_to_microseconds_2000 v ≡ Ok count
    → timestamp_truncate v 6 ≡ Ok (timestamp_from_microseconds_2000 count)
rounds-from_2000 v count e =
    let at = and_then-ok (timestamp_value v) (λ (i : ℤ). in_64_bits (unix_microseconds_of i -ℤ microseconds_to_2000)) count e in
    rounded v at.0 (wall_multiple_below 1_000) at.1 ∙ ap (λ (i : ℤ). Ok (timestamp_parts i)) (microseconds_below-2000 at.0 count (fits-ok _ count at.2).1)

pub counts_down : CountsRoundDown
counts_down = record { milliseconds = rounds-milliseconds; microseconds = rounds-microseconds; nanoseconds = rounds-nanoseconds; from_2000 = rounds-from_2000 }

-- what clocks at an offset show of a timestamp
pub record IsShownOf (v : MuxanduTimestamp) (o : ℤ) (w : MuxanduDateTime) (i : ℤ) : Type 0 where
  pub value : timestamp_value v ≡ Ok i
  pub shown : IsShownAt i o (local_at i o)
  pub parts : date_time_parts (local_at i o) ≡ w

pub date_time_from_timestamp-ok : (v : MuxanduTimestamp) (o : ℤ) (w : MuxanduDateTime) → date_time_from_timestamp v o ≡ Ok w → (i : ℤ) × IsShownOf v o w i
date_time_from_timestamp-ok v o w e =
    let at = and_then-ok (and_then (timestamp_value v) (λ (i : ℤ). shown_at_offset i o)) (λ (l : Local). Ok (date_time_parts l)) w e in
    let instant = and_then-ok (timestamp_value v) (λ (i : ℤ). shown_at_offset i o) at.0 at.1 in
    let shown = shown-ok instant.0 o at.0 instant.2 in (
      instant.0,
      record {
        value = instant.1;
        shown = rw (← shown.is) shown;
        parts = ap date_time_parts (sym shown.is) ∙ same-value _ _ at.2;
      },
    )

pub date_time_from_timestamp-in : (v : MuxanduTimestamp) (i o : ℤ) → timestamp_value v ≡ Ok i → IsOffset o → IsWallClock (shown_at i o)
    → date_time_from_timestamp v o ≡ Ok (date_time_parts (local_at i o))
date_time_from_timestamp-in v i o value offset wall =
    ap (λ (r : Result ℤ Refused). as_date_time (and_then r (λ (z : ℤ). shown_at_offset z o))) value ∙ ap as_date_time (shown-in i o offset wall)

-- the instant of a date-time
pub record HasInstant (w : MuxanduDateTime) (at : Local) (i : ℤ) : Type 0 where
  pub value : date_time_value w ≡ Ok at
  pub instant : instant_of at ≡ i
  pub range : IsWallClock i

pub date_time_instant-ok : (w : MuxanduDateTime) (i : ℤ) → date_time_instant w ≡ Ok i → (at : Local) × HasInstant w at i
date_time_instant-ok w i e =
    let at = and_then-ok (date_time_value w) (λ (l : Local). instant_if_any (instant_of l)) i e in
    let made = instant-ok (instant_of at.0) i at.2 in
    (at.0, record { value = at.1; instant = made.1; range = rw (← made.1) made.0 })

pub date_time_instant-in : (w : MuxanduDateTime) (at : Local) (i : ℤ) → HasInstant w at i → date_time_instant w ≡ Ok i
date_time_instant-in w at i h =
    ap (λ (r : Result Local Refused). and_then r (λ (l : Local). instant_if_any (instant_of l))) h.value ∙ ap instant_if_any h.instant ∙ instant-in i h.range

-- the date-time that clocks show has the instant
pub shown-instant : (v : MuxanduTimestamp) (o i : ℤ) (w : MuxanduDateTime) → IsShownOf v o w i → HasInstant w (local_at i o) i
shown-instant v o i w h = record {
  value = rw (← h.parts) (date_time_value-of (local_at i o) (h.shown.wall, h.shown.offset));
  instant = instant_of-local_at i o;
  range = (timestamp_value-ok v i h.value).range;
}

timestamps-date_time : (v : MuxanduTimestamp) (o : ℤ) (w : MuxanduDateTime) → date_time_from_timestamp v o ≡ Ok w
    → (timestamp_from_date_time w ≡ Ok v) × (w.offset_seconds ≡ o)
timestamps-date_time v o w e =
    let shown = date_time_from_timestamp-ok v o w e in
    let i = shown.0 in (
      ap as_timestamp (date_time_instant-in w _ i (shown-instant v o i w shown.1))
          ∙ ap (λ (z : MuxanduTimestamp). Ok z) (timestamp_value-ok v i shown.1.value).parts,
      ap (λ (z : MuxanduDateTime). z.offset_seconds) (sym shown.1.parts),
    )

-- clocks at the offset of a date-time show it at its instant
pub date_time-back : (w : MuxanduDateTime) (at : Local) (i : ℤ) → HasInstant w at i → date_time_from_timestamp (timestamp_parts i) w.offset_seconds ≡ Ok w
date_time-back w at i h =
    let read = date_time_value-ok w at h.value in
    let offset : at.offset ≡ w.offset_seconds = ap (λ (z : MuxanduDateTime). z.offset_seconds) read.parts in
    let same : local_at i w.offset_seconds ≡ at = rw (← offset, ← h.instant) (local_at-instant_of at) in
    date_time_from_timestamp-in (timestamp_parts i) i w.offset_seconds (timestamp_value-of i h.range) (rw (← offset) read.range.1)
    (rw (ap (λ (l : Local). l.wall) same) read.range.0) ∙ ap (λ (l : Local). Ok (date_time_parts l)) same ∙ ap (λ (z : MuxanduDateTime). Ok z) read.parts

timestamps-timestamp : (w : MuxanduDateTime) (v : MuxanduTimestamp) → timestamp_from_date_time w ≡ Ok v → date_time_from_timestamp v w.offset_seconds ≡ Ok w
timestamps-timestamp w v e =
    let instant = and_then-ok (date_time_instant w) (λ (i : ℤ). Ok (timestamp_parts i)) v e in
    let at = date_time_instant-ok w instant.0 instant.1 in
    rw (← same-value _ _ instant.2) (date_time-back w at.0 instant.0 at.1)

pub shown_timestamps : ShownTimestampsReadBack
shown_timestamps = record { date_time = timestamps-date_time; timestamp = timestamps-timestamp }

moments-date_time : (v : MuxanduMoment) (w : MuxanduDateTime) → date_time_of_moment v ≡ Ok w → moment_of_date_time w ≡ Ok v
moments-date_time v w e =
    let shown = date_time_from_timestamp-ok (timestamp_of_moment v) v.offset_seconds w e in
    let i = shown.0 in
    let parts = (timestamp_value-ok (timestamp_of_moment v) i shown.1.value).parts in
    ap (as_moment w.offset_seconds) (date_time_instant-in w _ i (shown-instant _ v.offset_seconds i w shown.1))
    ∙ moment_of i v w.offset_seconds parts (ap (λ (z : MuxanduDateTime). z.offset_seconds) (sym shown.1.parts)) where
      moment_of : (i : ℤ) (v : MuxanduMoment) (o : ℤ) → timestamp_parts i ≡ timestamp_of_moment v → o ≡ v.offset_seconds
          → as_moment o (Ok i) ≡ Ok v
      moment_of i v o parts same =
          ap (λ (t : MuxanduTimestamp). Ok (record { seconds = t.seconds; nanoseconds = t.nanoseconds; offset_seconds = o })) parts
          ∙ ap (λ (z : ℤ). Ok (record { seconds = v.seconds; nanoseconds = v.nanoseconds; offset_seconds = z })) same

moments-moment : (w : MuxanduDateTime) (v : MuxanduMoment) → moment_of_date_time w ≡ Ok v → date_time_of_moment v ≡ Ok w
moments-moment w v e =
    let instant = and_then-ok (date_time_instant w) (λ (i : ℤ). Ok (moment_parts w.offset_seconds i)) v e in
    let at = date_time_instant-ok w instant.0 instant.1 in
    rw (← same-value _ _ instant.2) (date_time-back w at.0 instant.0 at.1)

pub moments : MomentsReadBack
moments = record { date_time = moments-date_time; moment = moments-moment }

-- a time of day shows the parts that it was made of
times-time : (v : MuxanduTime) (c : ℕ) → time_value v.hour v.minute v.second v.nanosecond ≡ Ok c → time_parts c ≡ v
times-time v c e =
    let made = clock-ok v.hour v.minute v.second v.nanosecond c e in
    let p = made.0 in
    rw made.1 (rw (hour_of-clock_of_parts v.hour v.minute v.second v.nanosecond p, minute_of-clock_of_parts v.hour v.minute v.second v.nanosecond p)
    (rw (second_of-clock_of_parts v.hour v.minute v.second v.nanosecond p, nanosecond_of-clock_of_parts v.hour v.minute v.second v.nanosecond p) refl))

pub times : TimesReadBack
times = record { time = times-time; date_time = λ v c e. times-time (time_of v) c e; offset = λ v o. refl; back = λ v o. refl }
