-- The words of contracts, of this library, of those below it and of std, for callers: make/words writes this file.
pub use Rattle.calendar_values.specs.Adjustments.{adjustment_days, days_if_next, days_if_previous}
unfoldable pub use Rattle.calendar_values.specs.Adjustments.{subday_nanoseconds_of}
pub use Rattle.calendar_values.specs.Calendar.{IsOrdinalDate, day_of_calendar_date, day_of_month_of, day_of_ordinal_date, days_before_month}
pub use Rattle.calendar_values.specs.Calendar.{days_in_month, days_in_year, divides, epoch_julian_day, is_leap_year, julian_day_of, month_of}
pub use Rattle.calendar_values.specs.Calendar.{year_length}
unfoldable pub use Rattle.calendar_values.specs.Calendar.{day_of_ordinal, days_from_1970, days_in_months, days_until_1970, month_of_ordinal}
unfoldable pub use Rattle.calendar_values.specs.Calendar.{ordinal_of, year_of, year_start}
pub use Rattle.calendar_values.specs.Clock.{AreTimeParts, HasTimeParts, IsClock, clock_of_parts, hour_of, microsecond_of, millisecond_of, minute_of}
pub use Rattle.calendar_values.specs.Clock.{nanos_per_day, nanos_per_hour, nanos_per_microsecond, nanos_per_millisecond, nanos_per_minute}
pub use Rattle.calendar_values.specs.Clock.{nanos_per_second, nanos_per_week, nanosecond_of, second_of}
pub use Rattle.calendar_values.specs.Constructors.{calendar_date_outcome, clock_time_nano, hms_micro_outcome, hms_milli_outcome, hms_nano_outcome}
pub use Rattle.calendar_values.specs.Constructors.{hms_outcome, iso_week_date_outcome, julian_date_outcome, ordinal_date_outcome}
unfoldable pub use Rattle.calendar_values.specs.Constructors.{calendar_date, ordinal_date}
pub use Rattle.calendar_values.specs.CountParts.{is_count_name}
pub use Rattle.calendar_values.specs.Dates.{IsCalendarDateOf, IsIsoWeekDateOf, IsOrdinalDateOf, ShowsDate, ShowsIsoWeekDate, ShowsOrdinalDate}
pub use Rattle.calendar_values.specs.Digits.{text_capacity}
unfoldable pub use Rattle.calendar_values.specs.Digits.{fraction_digits, last_digits}
pub use Rattle.calendar_values.specs.Durations.{HasQuotient, IsDuration, IsDurationParts, IsNearestDuration, IsTimeDifference, SomeDuration}
pub use Rattle.calendar_values.specs.Durations.{duration_of_parts, greatest_duration, least_duration}
unfoldable pub use Rattle.calendar_values.specs.Durations.{subsec_microseconds_of, subsec_milliseconds_of, subsec_nanoseconds_of, whole_days_of}
unfoldable pub use Rattle.calendar_values.specs.Durations.{whole_hours_of, whole_microseconds_of, whole_milliseconds_of, whole_minutes_of}
unfoldable pub use Rattle.calendar_values.specs.Durations.{whole_seconds_of, whole_weeks_of}
pub use Rattle.calendar_values.specs.Month.{month_name, month_number}
pub use Rattle.calendar_values.specs.Months.{day_or_last, month_index, month_of_index, year_of_index}
unfoldable pub use Rattle.calendar_values.specs.Months.{first_of_month, last_of_month, months_later}
pub use Rattle.calendar_values.specs.Occurrences.{next_occurrence, nth_next_occurrence, nth_prev_occurrence, prev_occurrence}
unfoldable pub use Rattle.calendar_values.specs.Occurrences.{days_to_weekday}
pub use Rattle.calendar_values.specs.Offsets.{AreSignedOffsetParts, IsOffset, offset_outcome, offset_seconds_outcome, seconds_of_parts, with_sign_of}
unfoldable pub use Rattle.calendar_values.specs.Offsets.{offset_hours_of, offset_minutes_of, offset_seconds_of}
pub use Rattle.calendar_values.specs.Outcomes.{Gives, within}
pub use Rattle.calendar_values.specs.Parts.{is_part_name, part_name, part_named}
pub use Rattle.calendar_values.specs.Range.{IsDay, IsYear, SomeDay, first_day, last_day}
pub use Rattle.calendar_values.specs.Refusals.{IsDateOfRange, IsOrdinalDateOfRange, Refusal, conditional_refusal, date_refusal, outright_refusal}
pub use Rattle.calendar_values.specs.Refusals.{refusal_eq}
pub use Rattle.calendar_values.specs.Replacements.{day_outcome, hour_outcome, microsecond_outcome, millisecond_outcome, minute_outcome, month_outcome}
pub use Rattle.calendar_values.specs.Replacements.{nanosecond_outcome, ordinal_outcome, second_outcome, year_outcome}
pub use Rattle.calendar_values.specs.Texts.{year_text}
unfoldable pub use Rattle.calendar_values.specs.Texts.{date_text, offset_text, refusal_text, time_text, year_digits}
pub use Rattle.calendar_values.specs.Truncations.{multiple_below}
pub use Rattle.calendar_values.specs.WallClock.{IsInstant, IsWallClock, SomeInRange, first_wall_clock, last_wall_clock, unix_seconds_of, wall_clock}
unfoldable pub use Rattle.calendar_values.specs.WallClock.{wall_day, wall_time}
pub use Rattle.calendar_values.specs.Weekday.{weekday_name, weekday_number}
pub use Rattle.calendar_values.specs.Weeks.{iso_week_of, iso_year_of, monday_of, monday_week_of, sunday_week_of, thursday_of, weeks_in_year}
unfoldable pub use Rattle.calendar_values.specs.Weeks.{count_weekday, weekday_of}
pub use Rattle.std.specs.Char.{is_ascii_digit}
pub use Rattle.std.specs.Cmp.{partial_order_from_own_ties}
pub use Rattle.std.specs.Cmp.Lexicographic.{slice_cmp}
pub use Rattle.std.specs.Cmp.Rules.{comparing, hashing}
pub use Rattle.std.specs.Duration.{as_nanos}
pub use Rattle.std.specs.Fmt.{padded}
pub use Rattle.std.specs.HashSet.{contains}
pub use Rattle.std.specs.Int.{IsInRange, int_div_euclid, int_rem_euclid}
pub use Rattle.std.specs.Iterator.{Drains, HoldsAlong, IsFinite}
pub use Rattle.std.specs.List.{HoldsAt, fold}
pub use Rattle.std.specs.List.Sorted.{IsStableByKey, IsStrictlySortedBy}
pub use Rattle.std.specs.Ordering.{as_partial_cmp, int_cmp, int_eq, nat_cmp, on}
pub use Rattle.std.specs.Prelude.{All, Bool, Contains, Err, IfErr, IfNone, IfOk, IfSome, IsAscii, IsNone, IsOk, IsPermutation, IsSome, IsSorted}
pub use Rattle.std.specs.Prelude.{IsSortedByKey, IsTrue, List, MatchResult, None, Ok, OkIff, OnErr, OnOk, Some, SomeIff, [], codes, decimal, drop}
pub use Rattle.std.specs.Prelude.{false, filter, if◌then◌else◌, int_div, int_le, int_lt, is_ok, length, map, min, nat_lt, neg_ℤ, negsuc, not}
pub use Rattle.std.specs.Prelude.{option_map, pos, take, true, unsigned_abs, vec_capacity, vec_len, ℕ, ℤ, ⊤, ◌%◌, ◌&&◌, ◌*ℤ◌, ◌*◌, ◌++◌, ◌+ℤ◌, ◌+◌}
pub use Rattle.std.specs.Prelude.{◌-ℤ◌, ◌-◌, ◌/◌, ◌<ℤ◌, ◌<◌, ◌==◌, ◌^◌, ◌||◌, ◌↔◌, ◌∷◌, ◌≡◌, ◌≢◌, ◌≤ℤ◌, ◌≤◌, ◌⊎◌}
pub use Rattle.std.specs.Result.{result_map_both}
pub use Rattle.calendar_values.specs.declared.month.Month.TheVariants.{April, August, December, February, January, July, June, March, May, November}
pub use Rattle.calendar_values.specs.declared.month.Month.TheVariants.{October, September}
pub use Rattle.calendar_values.specs.declared.weekday.Weekday.TheVariants.{Friday, Monday, Saturday, Sunday, Thursday, Tuesday, Wednesday}
pub use Rattle.plain_times.specs.Replacements.{ReplacesDate, ReplacesTime, ShowsDay, ShowsHour, ShowsMicrosecond, ShowsMillisecond, ShowsMinute}
pub use Rattle.plain_times.specs.Replacements.{ShowsMonth, ShowsNanosecond, ShowsOrdinal, ShowsSecond, ShowsYear, wall_day_outcome, wall_hour_outcome}
pub use Rattle.plain_times.specs.Replacements.{wall_microsecond_outcome, wall_millisecond_outcome, wall_minute_outcome, wall_month_outcome}
pub use Rattle.plain_times.specs.Replacements.{wall_nanosecond_outcome, wall_ordinal_outcome, wall_second_outcome, wall_year_outcome}
unfoldable pub use Rattle.plain_times.specs.Replacements.{with_date, with_time}
pub use Rattle.plain_times.specs.Sums.{IsSaturatingDifference, IsSaturatingSum}
unfoldable pub use Rattle.plain_times.specs.Sums.{nearest_wall_clock, wall_clock_if_any}
unfoldable pub use Rattle.plain_times.specs.Texts.{plain_text}
pub use Rattle.plain_times.specs.Truncations.{TruncatesTo}
unfoldable pub use Rattle.plain_times.specs.Truncations.{wall_multiple_below}
unfoldable pub use Rattle.utc_times.specs.Texts.{utc_text}
pub use Rattle.utc_times.specs.UnixTime.{instant_of_second, instant_outcome, unix_instant}
pub use Rattle.offset_times.specs.Local.{IsEarlier, IsLater, IsLocal, Local, SameOffset, ShownAt, at_offset_of, local_at, local_in_utc}
pub use Rattle.offset_times.specs.Local.{local_multiple_below, offset_nanos, shown_at, wall_at}
unfoldable pub use Rattle.offset_times.specs.Local.{instant_of}
unfoldable pub use Rattle.offset_times.specs.Texts.{offset_date_time_text}
