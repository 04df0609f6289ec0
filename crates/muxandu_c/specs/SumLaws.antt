-- Laws of sums, differences, orders and conversions: those of timestamps undo each other, and those of date-times and moments are
-- those of their timestamps. A function of `src/laws.rt` proves each of them.
use Rattle.std.specs.Prelude.{◌≡◌, ◌⊎◌, ◌<◌, ◌≤◌, ℤ, pos, neg_ℤ, ◌+ℤ◌, ◌-ℤ◌, ◌<ℤ◌, Ok}
use Rattle.std.specs.Ordering.{int_cmp}
use Rattle.calendar_values.specs.WallClock.{first_wall_clock, last_wall_clock}
use Rattle.offset_times.specs.Local.{Local, wall_at}
use Rattle.muxandu_c.specs.Moments.{timestamp_of_moment, moment_to_offset, moment_add, moment_subtract, moment_difference, moment_compare}
use Rattle.muxandu_c.specs.Values.{duration_value, timestamp_value, timestamp_parts, date_time_value, date_time_parts, sign_of}
use Rattle.muxandu_c.specs.Values.{timestamp_add, timestamp_subtract, timestamp_difference, timestamp_compare}
use Rattle.muxandu_c.specs.Values.{timestamp_saturating_add, timestamp_saturating_subtract}
use Rattle.muxandu_c.specs.Values.{timestamp_from_date_time, date_time_to_offset}
use Rattle.muxandu_c.specs.Values.{date_time_add, date_time_subtract, date_time_difference, date_time_compare}
use Rattle.muxandu_c.specs.Values.{date_time_saturating_add, date_time_saturating_subtract}
use Rattle.muxandu_c.specs.declared.moments.MuxanduMoment.{MuxanduMoment}
use Rattle.muxandu_c.specs.declared.values.MuxanduDateTime.{MuxanduDateTime}
use Rattle.muxandu_c.specs.declared.values.MuxanduDuration.{MuxanduDuration}
use Rattle.muxandu_c.specs.declared.values.MuxanduTimestamp.{MuxanduTimestamp}

-- a date-time or a moment at another offset has that offset and the same timestamp, and the own offset gives it back
pub record ConversionsKeepTheInstant : Type 0 where
  pub date_time : (v w : MuxanduDateTime) (o : ℤ) → date_time_to_offset v o ≡ Ok w
      → (w.offset_seconds ≡ o) × (timestamp_from_date_time w ≡ timestamp_from_date_time v)
  pub date_time_back : (v w : MuxanduDateTime) (o : ℤ) → date_time_to_offset v o ≡ Ok w → date_time_to_offset w v.offset_seconds ≡ Ok v
  pub moment : (v w : MuxanduMoment) (o : ℤ) → moment_to_offset o v ≡ Ok w
      → (w.offset_seconds ≡ o) × (timestamp_of_moment w ≡ timestamp_of_moment v)
  pub moment_back : (v w : MuxanduMoment) (o : ℤ) → moment_to_offset o v ≡ Ok w → moment_to_offset v.offset_seconds w ≡ Ok v

-- a timestamp plus a duration, and then minus it, is the timestamp, and the other way round;
-- the duration from one timestamp to another leads there, and back; from a timestamp to its sum it is the duration
pub record TimestampSumsAreUndone : Type 0 where
  pub sum : (v u : MuxanduTimestamp) (w : MuxanduDuration) → timestamp_add v w ≡ Ok u → timestamp_subtract u w ≡ Ok v
  pub difference : (v u : MuxanduTimestamp) (w : MuxanduDuration) → timestamp_subtract v w ≡ Ok u → timestamp_add u w ≡ Ok v
  pub later : (v u : MuxanduTimestamp) (w : MuxanduDuration) → timestamp_difference v u ≡ Ok w → timestamp_add u w ≡ Ok v
  pub earlier : (v u : MuxanduTimestamp) (w : MuxanduDuration) → timestamp_difference v u ≡ Ok w → timestamp_subtract v w ≡ Ok u

-- the first timestamp comes before the second
abbrev pub ComesBefore : MuxanduTimestamp → MuxanduTimestamp → Type 0
ComesBefore v w = (v.seconds <ℤ w.seconds) ⊎ ((v.seconds ≡ w.seconds) × (v.nanoseconds < w.nanoseconds))

-- timestamps are in the order of their seconds, and then of their nanoseconds, if these are less than a second;
-- a duration from one timestamp to another has the sign of their order
pub record OrderIsThatOfSeconds : Type 0 where
  pub before : (v w : MuxanduTimestamp) → v.nanoseconds ≤ 999_999_999 → ComesBefore v w → timestamp_compare v w ≡ neg_ℤ (pos 1)
  pub same : (v : MuxanduTimestamp) → timestamp_compare v v ≡ pos 0
  pub after : (v w : MuxanduTimestamp) → w.nanoseconds ≤ 999_999_999 → ComesBefore w v → timestamp_compare v w ≡ pos 1
  pub difference : (v w : MuxanduTimestamp) (d : MuxanduDuration) (n : ℤ) → timestamp_difference v w ≡ Ok d → duration_value d ≡ Ok n
      → timestamp_compare v w ≡ sign_of (int_cmp n (pos 0))

-- date-times and moments are in the order of their timestamps
pub record OrdersAreThoseOfTimestamps : Type 0 where
  pub date_times : (v w : MuxanduDateTime) (a b : MuxanduTimestamp) → timestamp_from_date_time v ≡ Ok a → timestamp_from_date_time w ≡ Ok b
      → date_time_compare v w ≡ Ok (timestamp_compare a b)
  pub moments : (v w : MuxanduMoment) (sign : ℤ) → moment_compare v w ≡ Ok sign
      → sign ≡ timestamp_compare (timestamp_of_moment v) (timestamp_of_moment w)

-- the timestamp of a sum or a difference of a date-time and a duration is that of its timestamp, and the offset stays;
-- the duration between two date-times is that between their timestamps
pub record DateTimeSumsAreThoseOfTimestamps : Type 0 where
  pub sum : (v u : MuxanduDateTime) (w : MuxanduDuration) (a : MuxanduTimestamp) → date_time_add v w ≡ Ok u → timestamp_from_date_time v ≡ Ok a
      → (timestamp_from_date_time u ≡ timestamp_add a w) × (u.offset_seconds ≡ v.offset_seconds)
  pub difference : (v u : MuxanduDateTime) (w : MuxanduDuration) (a : MuxanduTimestamp) → date_time_subtract v w ≡ Ok u → timestamp_from_date_time v ≡ Ok a
      → (timestamp_from_date_time u ≡ timestamp_subtract a w) × (u.offset_seconds ≡ v.offset_seconds)
  pub between : (v w : MuxanduDateTime) (a b : MuxanduTimestamp) → timestamp_from_date_time v ≡ Ok a → timestamp_from_date_time w ≡ Ok b
      → date_time_difference v w ≡ timestamp_difference a b

-- the same of moments
pub record MomentSumsAreThoseOfTimestamps : Type 0 where
  pub sum : (v u : MuxanduMoment) (w : MuxanduDuration) → moment_add v w ≡ Ok u
      → (timestamp_add (timestamp_of_moment v) w ≡ Ok (timestamp_of_moment u)) × (u.offset_seconds ≡ v.offset_seconds)
  pub difference : (v u : MuxanduMoment) (w : MuxanduDuration) → moment_subtract v w ≡ Ok u
      → (timestamp_subtract (timestamp_of_moment v) w ≡ Ok (timestamp_of_moment u)) × (u.offset_seconds ≡ v.offset_seconds)
  pub between : (v w : MuxanduMoment) (d : MuxanduDuration) → moment_difference v w ≡ Ok d
      → timestamp_difference (timestamp_of_moment v) (timestamp_of_moment w) ≡ Ok d

-- a saturating sum or difference is the sum or the difference where the range has that, and else the end of the range that it passes
pub record SaturatingSumsEndInRange : Type 0 where
  pub sum : (v u : MuxanduTimestamp) (w : MuxanduDuration) → timestamp_add v w ≡ Ok u → timestamp_saturating_add v w ≡ Ok u
  pub difference : (v u : MuxanduTimestamp) (w : MuxanduDuration) → timestamp_subtract v w ≡ Ok u → timestamp_saturating_subtract v w ≡ Ok u
  pub sum_after : (v : MuxanduTimestamp) (w : MuxanduDuration) (i d : ℤ) → timestamp_value v ≡ Ok i → duration_value w ≡ Ok d
      → last_wall_clock <ℤ (i +ℤ d) → timestamp_saturating_add v w ≡ Ok (timestamp_parts last_wall_clock)
  pub sum_before : (v : MuxanduTimestamp) (w : MuxanduDuration) (i d : ℤ) → timestamp_value v ≡ Ok i → duration_value w ≡ Ok d
      → (i +ℤ d) <ℤ first_wall_clock → timestamp_saturating_add v w ≡ Ok (timestamp_parts first_wall_clock)
  pub difference_after : (v : MuxanduTimestamp) (w : MuxanduDuration) (i d : ℤ) → timestamp_value v ≡ Ok i → duration_value w ≡ Ok d
      → last_wall_clock <ℤ (i -ℤ d) → timestamp_saturating_subtract v w ≡ Ok (timestamp_parts last_wall_clock)
  pub difference_before : (v : MuxanduTimestamp) (w : MuxanduDuration) (i d : ℤ) → timestamp_value v ≡ Ok i → duration_value w ≡ Ok d
      → (i -ℤ d) <ℤ first_wall_clock → timestamp_saturating_subtract v w ≡ Ok (timestamp_parts first_wall_clock)

-- the same of date-times: the ends are those of the clocks at their offset
pub record SaturatingDateTimesEndInRange : Type 0 where
  pub sum : (v u : MuxanduDateTime) (w : MuxanduDuration) → date_time_add v w ≡ Ok u → date_time_saturating_add v w ≡ Ok u
  pub difference : (v u : MuxanduDateTime) (w : MuxanduDuration) → date_time_subtract v w ≡ Ok u → date_time_saturating_subtract v w ≡ Ok u
  pub sum_after : (v : MuxanduDateTime) (w : MuxanduDuration) (at : Local) (d : ℤ) → date_time_value v ≡ Ok at → duration_value w ≡ Ok d
      → last_wall_clock <ℤ (at.wall +ℤ d) → date_time_saturating_add v w ≡ Ok (date_time_parts (wall_at last_wall_clock at.offset))
  pub sum_before : (v : MuxanduDateTime) (w : MuxanduDuration) (at : Local) (d : ℤ) → date_time_value v ≡ Ok at → duration_value w ≡ Ok d
      → (at.wall +ℤ d) <ℤ first_wall_clock → date_time_saturating_add v w ≡ Ok (date_time_parts (wall_at first_wall_clock at.offset))
  pub difference_after : (v : MuxanduDateTime) (w : MuxanduDuration) (at : Local) (d : ℤ) → date_time_value v ≡ Ok at → duration_value w ≡ Ok d
      → last_wall_clock <ℤ (at.wall -ℤ d) → date_time_saturating_subtract v w ≡ Ok (date_time_parts (wall_at last_wall_clock at.offset))
  pub difference_before : (v : MuxanduDateTime) (w : MuxanduDuration) (at : Local) (d : ℤ) → date_time_value v ≡ Ok at → duration_value w ≡ Ok d
      → (at.wall -ℤ d) <ℤ first_wall_clock → date_time_saturating_subtract v w ≡ Ok (date_time_parts (wall_at first_wall_clock at.offset))
