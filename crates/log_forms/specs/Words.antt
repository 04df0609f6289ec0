-- The words of contracts, of this library, of those below it and of std, for callers: make/words writes this file.
pub use Rattle.line_devices.specs.Device.{has_failed, inner_of, is_at_start, is_pipe_closed, last_after, last_of}
pub use Rattle.line_devices.specs.LineParts.{HasNone}
pub use Rattle.line_devices.specs.StampTallies.{as_count, first_tally, is_bare, is_continuation, is_due, is_empty_line, is_poor, kind_of, line_or}
pub use Rattle.line_devices.specs.StampTallies.{tally_after, with_missing}
unfoldable pub use Rattle.line_devices.specs.StampTallies.{tally_of_kinds}
pub use Rattle.line_devices.specs.Writing.{MarksFailure, Sends, SendsAll, StopsSending, WritesAll}
pub use Rattle.std.specs.Char.{is_ascii_digit}
pub use Rattle.std.specs.Cmp.{partial_order_from_own_ties}
pub use Rattle.std.specs.Cmp.Lexicographic.{slice_cmp}
pub use Rattle.std.specs.Cmp.Rules.{comparing, hashing}
pub use Rattle.std.specs.Duration.{as_nanos}
pub use Rattle.std.specs.Fmt.{padded}
pub use Rattle.std.specs.HashSet.{contains}
pub use Rattle.std.specs.Int.{IsInRange, int_div_euclid, int_rem_euclid}
pub use Rattle.std.specs.Io.{ReadsAtMost, WritesAtMost}
pub use Rattle.std.specs.Io.KnownBytes.{Appends, Consumes, ReadConsumes, WriteAppends}
pub use Rattle.std.specs.Iterator.{Drains, HoldsAlong, IsFinite}
pub use Rattle.std.specs.List.{HoldsAt, count_by, fold, list_all, take_while}
pub use Rattle.std.specs.List.Sorted.{IsStableByKey, IsStrictlySortedBy}
pub use Rattle.std.specs.Ordering.{as_partial_cmp, int_cmp, int_eq, nat_cmp, on}
pub use Rattle.std.specs.Prelude.{All, Bool, Contains, Err, IfErr, IfNone, IfOk, IfSome, IsAscii, IsNone, IsOk, IsPermutation, IsSome, IsSorted}
pub use Rattle.std.specs.Prelude.{IsSortedByKey, IsTrue, List, MatchResult, None, Ok, OkIff, OnErr, OnOk, Option, Some, SomeIff, [], codes, decimal}
pub use Rattle.std.specs.Prelude.{drop, false, filter, get_or, if◌then◌else◌, int_div, int_le, int_lt, is_ok, is_some, length, map, min, nat_lt}
pub use Rattle.std.specs.Prelude.{neg_ℤ, negsuc, not, option_map, pos, take, true, unsigned_abs, unwrap_or, vec_capacity, vec_len, ℕ, ℤ, ⊤, ◌%◌, ◌&&◌}
pub use Rattle.std.specs.Prelude.{◌*ℤ◌, ◌*◌, ◌++◌, ◌+ℤ◌, ◌+◌, ◌-ℤ◌, ◌-◌, ◌/◌, ◌<ℤ◌, ◌<◌, ◌==◌, ◌^◌, ◌||◌, ◌↔◌, ◌∷◌, ◌≡◌, ◌≢◌, ◌≤ℤ◌, ◌≤◌, ◌⊎◌}
pub use Rattle.std.specs.Result.{result_map_both}
pub use Rattle.line_devices.specs.declared.stamp_tallies.LineKind.{LineKind}
pub use Rattle.calendar_values.specs.Adjustments.{adjustment_days, days_if_next, days_if_previous}
unfoldable pub use Rattle.calendar_values.specs.Adjustments.{subday_nanoseconds_of}
pub use Rattle.calendar_values.specs.Calendar.{IsOrdinalDate, day_of_calendar_date, day_of_month_of, day_of_ordinal_date, days_before_month}
pub use Rattle.calendar_values.specs.Calendar.{days_in_month, days_in_year, divides, epoch_julian_day, is_leap_year, julian_day_of, month_of}
pub use Rattle.calendar_values.specs.Calendar.{year_length}
unfoldable pub use Rattle.calendar_values.specs.Calendar.{day_of_ordinal, days_from_1970, days_in_months, days_until_1970, month_of_ordinal}
unfoldable pub use Rattle.calendar_values.specs.Calendar.{ordinal_of, year_of, year_start}
pub use Rattle.calendar_values.specs.Clock.{AreTimeParts, HasTimeParts, IsClock, clock_of_parts, hour_of, microsecond_of, millisecond_of, minute_of}
pub use Rattle.calendar_values.specs.Clock.{nanos_per_day, nanos_per_hour, nanos_per_microsecond, nanos_per_millisecond, nanos_per_minute}
pub use Rattle.calendar_values.specs.Clock.{nanos_per_second, nanos_per_week, nanosecond_of, second_of}
pub use Rattle.calendar_values.specs.Constructors.{calendar_date_outcome, clock_time_nano, hms_micro_outcome, hms_milli_outcome, hms_nano_outcome}
pub use Rattle.calendar_values.specs.Constructors.{hms_outcome, iso_week_date_outcome, julian_date_outcome, ordinal_date_outcome}
unfoldable pub use Rattle.calendar_values.specs.Constructors.{calendar_date, ordinal_date}
pub use Rattle.calendar_values.specs.CountParts.{is_count_name}
pub use Rattle.calendar_values.specs.Dates.{IsCalendarDateOf, IsIsoWeekDateOf, IsOrdinalDateOf, ShowsDate, ShowsIsoWeekDate, ShowsOrdinalDate}
pub use Rattle.calendar_values.specs.Digits.{text_capacity}
unfoldable pub use Rattle.calendar_values.specs.Digits.{fraction_digits, last_digits}
pub use Rattle.calendar_values.specs.Durations.{HasQuotient, IsDuration, IsDurationParts, IsNearestDuration, IsTimeDifference, SomeDuration}
pub use Rattle.calendar_values.specs.Durations.{duration_of_parts, greatest_duration, least_duration}
unfoldable pub use Rattle.calendar_values.specs.Durations.{subsec_microseconds_of, subsec_milliseconds_of, subsec_nanoseconds_of, whole_days_of}
unfoldable pub use Rattle.calendar_values.specs.Durations.{whole_hours_of, whole_microseconds_of, whole_milliseconds_of, whole_minutes_of}
unfoldable pub use Rattle.calendar_values.specs.Durations.{whole_seconds_of, whole_weeks_of}
pub use Rattle.calendar_values.specs.Month.{month_name, month_number}
pub use Rattle.calendar_values.specs.Months.{day_or_last, month_index, month_of_index, year_of_index}
unfoldable pub use Rattle.calendar_values.specs.Months.{first_of_month, last_of_month, months_later}
pub use Rattle.calendar_values.specs.Occurrences.{next_occurrence, nth_next_occurrence, nth_prev_occurrence, prev_occurrence}
unfoldable pub use Rattle.calendar_values.specs.Occurrences.{days_to_weekday}
pub use Rattle.calendar_values.specs.Offsets.{AreSignedOffsetParts, IsOffset, offset_outcome, offset_seconds_outcome, seconds_of_parts, with_sign_of}
unfoldable pub use Rattle.calendar_values.specs.Offsets.{offset_hours_of, offset_minutes_of, offset_seconds_of}
pub use Rattle.calendar_values.specs.Outcomes.{Gives, within}
pub use Rattle.calendar_values.specs.Parts.{is_part_name, part_name, part_named}
pub use Rattle.calendar_values.specs.Range.{IsDay, IsYear, SomeDay, first_day, last_day}
pub use Rattle.calendar_values.specs.Refusals.{IsDateOfRange, IsOrdinalDateOfRange, Refusal, conditional_refusal, date_refusal, outright_refusal}
pub use Rattle.calendar_values.specs.Refusals.{refusal_eq}
pub use Rattle.calendar_values.specs.Replacements.{day_outcome, hour_outcome, microsecond_outcome, millisecond_outcome, minute_outcome, month_outcome}
pub use Rattle.calendar_values.specs.Replacements.{nanosecond_outcome, ordinal_outcome, second_outcome, year_outcome}
pub use Rattle.calendar_values.specs.Texts.{year_text}
unfoldable pub use Rattle.calendar_values.specs.Texts.{date_text, offset_text, refusal_text, time_text, year_digits}
pub use Rattle.calendar_values.specs.Truncations.{multiple_below}
pub use Rattle.calendar_values.specs.WallClock.{IsInstant, IsWallClock, SomeInRange, first_wall_clock, last_wall_clock, unix_seconds_of, wall_clock}
unfoldable pub use Rattle.calendar_values.specs.WallClock.{wall_day, wall_time}
pub use Rattle.calendar_values.specs.Weekday.{weekday_name, weekday_number}
pub use Rattle.calendar_values.specs.Weeks.{iso_week_of, iso_year_of, monday_of, monday_week_of, sunday_week_of, thursday_of, weeks_in_year}
unfoldable pub use Rattle.calendar_values.specs.Weeks.{count_weekday, weekday_of}
pub use Rattle.calendar_values.specs.declared.month.Month.TheVariants.{April, August, December, February, January, July, June, March, May, November}
pub use Rattle.calendar_values.specs.declared.month.Month.TheVariants.{October, September}
pub use Rattle.calendar_values.specs.declared.weekday.Weekday.TheVariants.{Friday, Monday, Saturday, Sunday, Thursday, Tuesday, Wednesday}
pub use Rattle.plain_times.specs.Replacements.{ReplacesDate, ReplacesTime, ShowsDay, ShowsHour, ShowsMicrosecond, ShowsMillisecond, ShowsMinute}
pub use Rattle.plain_times.specs.Replacements.{ShowsMonth, ShowsNanosecond, ShowsOrdinal, ShowsSecond, ShowsYear, wall_day_outcome, wall_hour_outcome}
pub use Rattle.plain_times.specs.Replacements.{wall_microsecond_outcome, wall_millisecond_outcome, wall_minute_outcome, wall_month_outcome}
pub use Rattle.plain_times.specs.Replacements.{wall_nanosecond_outcome, wall_ordinal_outcome, wall_second_outcome, wall_year_outcome}
unfoldable pub use Rattle.plain_times.specs.Replacements.{with_date, with_time}
pub use Rattle.plain_times.specs.Sums.{IsSaturatingDifference, IsSaturatingSum}
unfoldable pub use Rattle.plain_times.specs.Sums.{nearest_wall_clock, wall_clock_if_any}
unfoldable pub use Rattle.plain_times.specs.Texts.{plain_text}
pub use Rattle.plain_times.specs.Truncations.{TruncatesTo}
unfoldable pub use Rattle.plain_times.specs.Truncations.{wall_multiple_below}
unfoldable pub use Rattle.utc_times.specs.Texts.{utc_text}
pub use Rattle.utc_times.specs.UnixTime.{instant_of_second, instant_outcome, unix_instant}
pub use Rattle.offset_times.specs.Local.{IsEarlier, IsLater, IsLocal, Local, SameOffset, ShownAt, at_offset_of, local_at, local_in_utc}
pub use Rattle.offset_times.specs.Local.{local_multiple_below, offset_nanos, shown_at, wall_at}
unfoldable pub use Rattle.offset_times.specs.Local.{instant_of}
unfoldable pub use Rattle.offset_times.specs.Texts.{offset_date_time_text}
pub use Rattle.stamp_times.specs.Counter.{IsReplaceable, RefusesReplaced, Saturates, Shifts, ShowsReplaced, clock_part_of, date_part_of}
pub use Rattle.stamp_times.specs.Counter.{instant_after, instant_after_replacement, instant_after_shift, last_instant, local_reply, replies, reply}
pub use Rattle.stamp_times.specs.Counter.{reply_of_instant}
pub use Rattle.stamp_times.specs.Instants.{instant_of_microseconds, instant_of_milliseconds, instant_of_parts, unix_microseconds_of}
pub use Rattle.stamp_times.specs.Instants.{unix_milliseconds_of, unix_nanosecond_of}
unfoldable pub use Rattle.stamp_times.specs.Instants.{hashed_instant}
pub use Rattle.stamp_times.specs.Logs.{ContainsByKey, first_by_key, last_by_key}
unfoldable pub use Rattle.stamp_times.specs.Numbered.{month_numbered, weekday_numbered}
pub use Rattle.stamp_times.specs.Refusals.{timestamp_outcome}
unfoldable pub use Rattle.stamp_times.specs.Refusals.{timestamp_of_parts}
unfoldable pub use Rattle.stamp_times.specs.Texts.{fraction_text, seconds_text, timestamp_text}
pub use Rattle.stamp_times.specs.Travel.{IsFarInside, IsStep, held_after, held_by, held_instant, shown_by, stop_index}
pub use Rattle.stamp_times.specs.declared.chains.steps.Step.TheVariants.{ToOffset, ToStamp, ToUtc}
pub use Rattle.stamp_times.specs.declared.runs.calls.Call.TheVariants.{ReadClock, ReadDate, Replace, Shift}
pub use Rattle.stamp_times.specs.declared.runs.calls.Reply.TheVariants.{ClockPart, DatePart, Now, Refused, RefusedPart}
pub use Rattle.stamp_times.specs.declared.runs.calls.Shift.TheVariants.{CheckedAdd, CheckedSub, SaturatingAdd, SaturatingSub}
unfoldable pub use Rattle.rfc3339.specs.Faults.{may_stand, next_place, place_in_offset, standing}
pub use Rattle.rfc3339.specs.Form.{IsDateTime, IsOffsetText, is_separator}
unfoldable pub use Rattle.rfc3339.specs.Form.{fraction_value}
pub use Rattle.rfc3339.specs.Front.{offset_numbers, offset_of_numbers, with_length}
unfoldable pub use Rattle.rfc3339.specs.Front.{front_reading_of, offset_reading_of}
pub use Rattle.rfc3339.specs.FullDates.{HasFullDate, IsFullDate, full_date_meaning}
unfoldable pub use Rattle.rfc3339.specs.FullDates.{full_date_at, full_date_reading_of, full_date_text}
pub use Rattle.rfc3339.specs.LeapSeconds.{AreInLeapRange, IsLastOfMonth, is_last_of_month, stand_in}
unfoldable pub use Rattle.rfc3339.specs.LeapSeconds.{leap_meaning, leap_reading_of}
pub use Rattle.rfc3339.specs.Meaning.{AreInRange, offset_of, value_of}
unfoldable pub use Rattle.rfc3339.specs.Meaning.{meaning}
pub use Rattle.rfc3339.specs.Reading.{parts_read, reading_as, second_on, time_on}
unfoldable pub use Rattle.rfc3339.specs.Reading.{digit_at, digits_at, fraction_at, front_at, mark_at, part_at, parts_at, reading_of, separator_at}
unfoldable pub use Rattle.rfc3339.specs.Reading.{two_digits_at, year_at, zone_at}
pub use Rattle.rfc3339.specs.Refusals.{component_name}
pub use Rattle.rfc3339.specs.Texts.{HasFixedText, HasText, fraction_with}
unfoldable pub use Rattle.rfc3339.specs.Texts.{digits_text, fixed_text, fixed_text_at, fraction_of_digits, rfc3339_text, text_with, time_offset_text}
unfoldable pub use Rattle.rfc3339.specs.UnixTexts.{unix_text}
pub use Rattle.rfc3339.specs.Walls.{IsAfterSecond, fraction_on, parts_on}
unfoldable pub use Rattle.rfc3339.specs.Walls.{wall_text}
pub use Rattle.rfc3339.specs.declared.parts.Parts.{Parts}
pub use Rattle.rfc3339.specs.declared.refusal.Component.TheVariants.{Day, Hour, Minute, Month, OffsetHour, OffsetMinute, Second}
pub use Rattle.rfc3339.specs.declared.refusal.TextRefusal.TheVariants.{OutOfRange, Syntax}
pub use Rattle.format_descriptions.specs.Choices.{IsChoice}
pub use Rattle.format_descriptions.specs.ClockValues.{or_zero, tells_time}
unfoldable pub use Rattle.format_descriptions.specs.ClockValues.{clock_at, clock_of_half, time_of_parts}
pub use Rattle.format_descriptions.specs.DateTimeValues.{HasLocalParts, HasPlainParts, IsLeapStandIn, is_leap_stand_in, is_sixty, leap_outcome}
pub use Rattle.format_descriptions.specs.DateTimeValues.{leap_parts, with_last_nanosecond}
unfoldable pub use Rattle.format_descriptions.specs.DateTimeValues.{leap_of_parts, local_of_parts, plain_of_parts}
pub use Rattle.format_descriptions.specs.DescriptionComponents.{week_of}
unfoldable pub use Rattle.format_descriptions.specs.DescriptionComponents.{component_of}
pub use Rattle.format_descriptions.specs.DescriptionGroups.{at_front, at_spot, ends_group, head_of, in_groups, is_in_first, is_in_group, item_count}
pub use Rattle.format_descriptions.specs.DescriptionGroups.{item_of_size}
unfoldable pub use Rattle.format_descriptions.specs.DescriptionGroups.{began, between_groups, group_at, group_fault_at_end, group_size, group_step}
unfoldable pub use Rattle.format_descriptions.specs.DescriptionGroups.{in_group_word, inside, unsized_step}
pub use Rattle.format_descriptions.specs.DescriptionModifiers.{no_modifiers}
unfoldable pub use Rattle.format_descriptions.specs.DescriptionModifiers.{common_key_at, key_at, modifier_at, own_key_at, repr_at, takes, with_value}
unfoldable pub use Rattle.format_descriptions.specs.DescriptionModifiers.{word_key_at}
unfoldable pub use Rattle.format_descriptions.specs.DescriptionNames.{date_name_at, name_at, other_name_at, time_name_at}
unfoldable pub use Rattle.format_descriptions.specs.DescriptionSteps.{begin_name, between_words, escaped, fault_at_end, finish_component, in_word}
unfoldable pub use Rattle.format_descriptions.specs.DescriptionSteps.{is_closed, open_bracket, outside, step}
pub use Rattle.format_descriptions.specs.DescriptionTexts.{and_then, description_source, end_of_several, group_end, group_fault, group_opening}
pub use Rattle.format_descriptions.specs.DescriptionTexts.{in_brackets, is_ignore, is_several, last_end, plain_source, refusal_of_items}
pub use Rattle.format_descriptions.specs.DescriptionTexts.{source_length, unless_fault, with_piece, with_source}
unfoldable pub use Rattle.format_descriptions.specs.DescriptionTexts.{byte_source, component_source, source_from}
unfoldable pub use Rattle.format_descriptions.specs.DescriptionValues.{base_at, case_at, count_from, few_digits_at, first_number_at, hour_repr_at}
unfoldable pub use Rattle.format_descriptions.specs.DescriptionValues.{many_digits_at, month_repr_at, padding_at, precision_at, range_at}
unfoldable pub use Rattle.format_descriptions.specs.DescriptionValues.{read_case_at, sign_rule_at, subsecond_digits_at, week_repr_at, weekday_repr_at}
unfoldable pub use Rattle.format_descriptions.specs.DescriptionValues.{year_repr_at}
pub use Rattle.format_descriptions.specs.DescriptionWords.{is_white_space}
unfoldable pub use Rattle.format_descriptions.specs.DescriptionWords.{ends_word, is_word_at, name_rest}
pub use Rattle.format_descriptions.specs.Descriptions.{first_items, items_of_description, refusal_of}
pub use Rattle.format_descriptions.specs.Groups.{fault_after, is_other, size_of}
unfoldable pub use Rattle.format_descriptions.specs.Groups.{written_from}
pub use Rattle.format_descriptions.specs.InstantValues.{HasInstantParts, instant_at, or_no_count, tells_instant, unix_nanoseconds}
unfoldable pub use Rattle.format_descriptions.specs.InstantValues.{counted_instant, instant_of_counts, wrong_instant}
pub use Rattle.format_descriptions.specs.Iso8601.{clock_form, date_form, date_part, fraction_form, has_iso8601_text, has_short_year, has_time}
pub use Rattle.format_descriptions.specs.Iso8601.{has_whole_offset, is_short_year, iso8601_date_items, iso8601_items, iso8601_time_items, mark_part}
pub use Rattle.format_descriptions.specs.Iso8601.{offset_form, offset_part, time_part, year_form}
unfoldable pub use Rattle.format_descriptions.specs.Iso8601.{iso8601_form}
pub use Rattle.format_descriptions.specs.KeptParts.{Keeps, kept_of, part_if, parts_kept}
pub use Rattle.format_descriptions.specs.Kinds.{by_kind, lacking}
unfoldable pub use Rattle.format_descriptions.specs.Kinds.{flat_lacking}
pub use Rattle.format_descriptions.specs.Known.{date_items}
pub use Rattle.format_descriptions.specs.ModifierTexts.{base_modifier, case_modifier, count_modifier, digits_modifier, month_modifier}
pub use Rattle.format_descriptions.specs.ModifierTexts.{padding_modifier, precision_modifier, range_modifier, read_case_modifier, rule_modifier}
pub use Rattle.format_descriptions.specs.ModifierTexts.{sign_modifier, start_modifier, weekday_modifier}
pub use Rattle.format_descriptions.specs.Modifiers.{digit_count, first_number, first_weekday, has_large_number, is_extended, is_mandatory, is_partial}
pub use Rattle.format_descriptions.specs.Modifiers.{reads_any_case, unix_digits, utc_word}
pub use Rattle.format_descriptions.specs.Names.{name_of_month, name_of_weekday}
pub use Rattle.format_descriptions.specs.OffsetValues.{HasOffsetParts, or_false, tells_offset}
unfoldable pub use Rattle.format_descriptions.specs.OffsetValues.{offset_at, offset_of_parts}
pub use Rattle.format_descriptions.specs.PartPlaces.{is_component}
unfoldable pub use Rattle.format_descriptions.specs.PartPlaces.{has_part, last_place, part_place, place_of_item}
pub use Rattle.format_descriptions.specs.PartTests.{fits, fits_choice, fits_signed, signed}
pub use Rattle.format_descriptions.specs.Read.{front_of, items_at, no_parts, read_end}
unfoldable pub use Rattle.format_descriptions.specs.Read.{agrees, component_at, item_at, read_from, with_part}
pub use Rattle.format_descriptions.specs.Reading.{digit_more, end_at, ignored_at, is_letter, nothing, unsigned, with_sign}
unfoldable pub use Rattle.format_descriptions.specs.Reading.{counted_at, decimal_at, digits_on, four_at, letter_at, month_at, more_at, past_digits}
unfoldable pub use Rattle.format_descriptions.specs.Reading.{period_at, sign_at, signed_century_at, signed_hours_at, signed_year_at, six_at, three_at}
unfoldable pub use Rattle.format_descriptions.specs.Reading.{three_digits_at, two_at, unix_at, weekday_at, weekday_number_at, word_at, year_since_at}
pub use Rattle.format_descriptions.specs.Rfc2822.{Fault, blanks_at, clock_read, date_read, letter_zone_at, mail_parts, mail_refusal, mark_between}
pub use Rattle.format_descriptions.specs.Rfc2822.{offset_read, or_fault, part_read, past_comments, starts_letter, then_blanks, weekday_read}
pub use Rattle.format_descriptions.specs.Rfc2822.{whole_word_at, year_read, zones}
unfoldable pub use Rattle.format_descriptions.specs.Rfc2822.{are_comments, mail_front, mail_year_at, mail_zone_at, named_zone_at, past_blanks}
pub use Rattle.format_descriptions.specs.Spelled.{Spells}
pub use Rattle.format_descriptions.specs.Values.{HasDateParts, calendar_year, day_in_iso_year, day_with, iso_year, tells_date, year_known}
unfoldable pub use Rattle.format_descriptions.specs.Values.{date_of_parts, day_in_year, iso_day, month_day, week_day, week_ordinal, wrong_date}
unfoldable pub use Rattle.format_descriptions.specs.Values.{wrong_day, wrong_week, wrong_year, year_day}
pub use Rattle.format_descriptions.specs.WellKnown.{has_rfc2822_text, is_mail_year, rfc2822_items}
pub use Rattle.format_descriptions.specs.Written.{Fits, described_text, is_year_since, items_text, name_in_form, unix_rounded, week_by, year_by}
pub use Rattle.format_descriptions.specs.Written.{year_sign}
unfoldable pub use Rattle.format_descriptions.specs.Written.{century_digits, century_text, component_text, flat_text, four_text, hour_12, item_text}
unfoldable pub use Rattle.format_descriptions.specs.Written.{offset_hour_text, offset_word_text, period_text, six_text, subsecond_text, three_text}
unfoldable pub use Rattle.format_descriptions.specs.Written.{two_text, unix_count, weekday_number_by, year_since_text}
pub use Rattle.std.specs.Bool.{OnFalse, OnTrue}
pub use Rattle.format_descriptions.specs.declared.component.Component.{Component}
pub use Rattle.format_descriptions.specs.declared.component.Component.TheVariants.{End, HourFraction, Ignore, IgnoreDigits, IgnoreWeekday}
pub use Rattle.format_descriptions.specs.declared.component.Component.TheVariants.{MinuteFraction, MonthName, OffsetWord, UnixTimestamp, WeekNumber}
pub use Rattle.format_descriptions.specs.declared.component.Component.TheVariants.{WeekdayName, WeekdayNumber, YearSince, YearSix}
pub use Rattle.format_descriptions.specs.declared.value_refusal.Field.TheVariants.{Hour12, IsoWeek, IsoYear, IsoYearCentury, IsoYearLastTwo}
pub use Rattle.format_descriptions.specs.declared.value_refusal.Field.TheVariants.{MondayWeek, OffsetSecond, Ordinal, Period, Subsecond, SundayWeek}
pub use Rattle.format_descriptions.specs.declared.value_refusal.Field.TheVariants.{UnixMicrosecond, UnixMillisecond, UnixNanosecond, UnixSecond}
pub use Rattle.format_descriptions.specs.declared.value_refusal.Field.TheVariants.{Weekday, Year, YearCentury, YearLastTwo}
pub use Rattle.format_descriptions.specs.declared.description_steps.DescriptionVersion.TheVariants.{One, Two}
pub use Rattle.format_descriptions.specs.declared.format_refusal.FormatRefusal.TheVariants.{Lacks, NoText}
pub use Rattle.format_descriptions.specs.declared.item.Item.{Item}
pub use Rattle.format_descriptions.specs.declared.item.Item.TheVariants.{Byte, First, Optional, Or, Part}
pub use Rattle.format_descriptions.specs.declared.item_refusal.ItemFault.TheVariants.{NoCount, NoEscape, NoFirst, NoName, NoRoom, PastEnd, TooDeep}
pub use Rattle.format_descriptions.specs.declared.modifiers.Padding.TheVariants.{Bare, Space, Zero}
pub use Rattle.format_descriptions.specs.declared.modifiers.Sign.{Sign}
pub use Rattle.format_descriptions.specs.declared.modifiers.Sign.TheVariants.{Automatic, Mandatory}
pub use Rattle.format_descriptions.specs.declared.modifiers.YearBase.TheVariants.{Calendar}
pub use Rattle.format_descriptions.specs.declared.part_places.PartPlace.{PartPlace}
pub use Rattle.format_descriptions.specs.declared.value_refusal.Field.{Field}
pub use Rattle.format_descriptions.specs.declared.value_refusal.ValueRefusal.TheVariants.{Missing, Wrong}
pub use Rattle.log_forms.specs.Choices.{better_of, choice_of, count_read, first_known, is_bare_at, is_count, is_even, is_near, is_next}
pub use Rattle.log_forms.specs.Choices.{is_read_by_any, most, names_counts, reader_key, reader_place, reads, some_year, span_with, text_of}
unfoldable pub use Rattle.log_forms.specs.Choices.{any_reads, best_of, count_in, digits_behind_comma, even_by, even_in, found_by, is_sure, no_bare_in}
unfoldable pub use Rattle.log_forms.specs.Choices.{reader_form, steady_by, steady_in}
pub use Rattle.log_forms.specs.Ends.{begins_alphanumeric, begins_column, begins_comma, begins_fraction, begins_letter, begins_mark, begins_separator}
pub use Rattle.log_forms.specs.Ends.{begins_text, begins_year, begins_zone, begins_zone_column, is_fraction, is_joint, is_spelled, leaves_fraction}
pub use Rattle.log_forms.specs.Ends.{leaves_out, leaves_year, names_zone, opens_bracket, past_bracket, runs_on, spells_zone}
unfoldable pub use Rattle.log_forms.specs.Ends.{ends_behind_comma, is_apart, past_separators, spells}
pub use Rattle.log_forms.specs.FieldNames.{field_name}
pub use Rattle.log_forms.specs.Forms.{ahead_of, digits_of, form_name, form_named, form_of, items_of, lead_of, sample_of}
unfoldable pub use Rattle.log_forms.specs.Forms.{name_in}
pub use Rattle.log_forms.specs.Fronts.{begins_letters, ends_with_zone, follows_no_zone, is_gap, is_zone_word}
unfoldable pub use Rattle.log_forms.specs.Fronts.{last_word}
pub use Rattle.log_forms.specs.Instants.{assumed_year, has_count, is_whole, offset_known, utc_instant, year_of_month}
unfoldable pub use Rattle.log_forms.specs.Instants.{with_year}
pub use Rattle.log_forms.specs.Json.{depth_after, is_white, member_of, state_inside, value_text}
unfoldable pub use Rattle.log_forms.specs.Json.{before_point, member_at, past_white, path_of}
pub use Rattle.log_forms.specs.Lacking.{gives_offset, gives_year, lacks_offset, lacks_year}
unfoldable pub use Rattle.log_forms.specs.Lacking.{any_offset, any_year}
pub use Rattle.log_forms.specs.Marks.{is_blank}
unfoldable pub use Rattle.log_forms.specs.Marks.{bytes_at}
pub use Rattle.log_forms.specs.PlaceWords.{field_numbered, place_with}
unfoldable pub use Rattle.log_forms.specs.PlaceWords.{number_in, place_of}
pub use Rattle.log_forms.specs.Places.{past_colour, past_colours}
unfoldable pub use Rattle.log_forms.specs.Places.{behind_text, colour_end, field_at, last_bracket, text_at}
pub use Rattle.log_forms.specs.Splits.{counted_reading, ends_within, if_read, reading_in_two}
unfoldable pub use Rattle.log_forms.specs.Splits.{splits}
pub use Rattle.log_forms.specs.Stamps.{ended_stamp, front_reading, has_digits, longest_front, stamp_behind, stamp_in}
unfoldable pub use Rattle.log_forms.specs.Stamps.{stamp_at}
pub use Rattle.log_forms.specs.Years.{assumed_after, assumed_by, shown_if_any}
