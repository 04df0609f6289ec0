use Rattle.std.proofs.Common.{◌≡◌, ◌∙◌, rules, ap, ℤ, ℕ, w8, w64, to_z, of_z}
use Rattle.calendar_values.specs.Clock.{hour_of, minute_of, second_of, nanosecond_of}
use Rattle.calendar_values.specs.Offsets.{offset_hours_of, offset_minutes_of, offset_seconds_of}
use Rattle.offset_times.specs.Local.{instant_of}
use Rattle.offset_times.proofs.InstantOrderLemmas.{difference_within_year, int_cmp-difference}
use Rattle.offset_times.proofs.offset_date_time.OffsetDateTime.nanoseconds_within_year.Goals as goal

pub returns-clause-value : goal.returns-clause-value
returns-clause-value c =
    let days = rw (c.ordinal.ensures.value, c.ordinal-2.ensures.value) at c.days_between-days.ensures.value in
    let hour_back : to_z w8 (of_z w8 c.whole_hours.result) ≡ c.whole_hours.result = search rules in
    let hour_back_2 : to_z w8 (of_z w8 c.whole_hours-2.result) ≡ c.whole_hours-2.result = search rules in
    let hour_offset = hour_back ∙ c.whole_hours.ensures.value ∙ ap (λ (o : ℤ). offset_hours_of o) c.offset-from.ensures.value in
    let hour_offset_2 = hour_back_2 ∙ c.whole_hours-2.ensures.value ∙ ap (λ (o : ℤ). offset_hours_of o) c.offset-other_from.ensures.value in
    let hour_at = c.hour.ensures.value ∙ ap (λ (t : ℕ). hour_of t) c.time-at.ensures.value in
    let hour_at_2 = c.hour-2.ensures.value ∙ ap (λ (t : ℕ). hour_of t) c.time-other_at.ensures.value in
    let hours = rw (hour_offset, hour_offset_2, hour_at, hour_at_2) at c.part_between-hours.ensures.value in
    let minute_back : to_z w8 (of_z w8 c.minutes_past_hour.result) ≡ c.minutes_past_hour.result = search rules in
    let minute_back_2 : to_z w8 (of_z w8 c.minutes_past_hour-2.result) ≡ c.minutes_past_hour-2.result = search rules in
    let minute_offset = minute_back ∙ c.minutes_past_hour.ensures.value ∙ ap (λ (o : ℤ). offset_minutes_of o) c.offset-from.ensures.value in
    let minute_offset_2 = minute_back_2 ∙ c.minutes_past_hour-2.ensures.value ∙ ap (λ (o : ℤ). offset_minutes_of o) c.offset-other_from.ensures.value in
    let minute_at = c.minute.ensures.value ∙ ap (λ (t : ℕ). minute_of t) c.time-at.ensures.value in
    let minute_at_2 = c.minute-2.ensures.value ∙ ap (λ (t : ℕ). minute_of t) c.time-other_at.ensures.value in
    let minutes = rw (minute_offset, minute_offset_2, minute_at, minute_at_2) at c.part_between-minutes.ensures.value in
    let second_back : to_z w8 (of_z w8 c.seconds_past_minute.result) ≡ c.seconds_past_minute.result = search rules in
    let second_back_2 : to_z w8 (of_z w8 c.seconds_past_minute-2.result) ≡ c.seconds_past_minute-2.result = search rules in
    let second_offset = second_back ∙ c.seconds_past_minute.ensures.value ∙ ap (λ (o : ℤ). offset_seconds_of o) c.offset-from.ensures.value in
    let second_offset_2 = second_back_2 ∙ c.seconds_past_minute-2.ensures.value ∙ ap (λ (o : ℤ). offset_seconds_of o) c.offset-other_from.ensures.value in
    let second_at = c.second.ensures.value ∙ ap (λ (t : ℕ). second_of t) c.time-at.ensures.value in
    let second_at_2 = c.second-2.ensures.value ∙ ap (λ (t : ℕ). second_of t) c.time-other_at.ensures.value in
    let seconds = rw (second_offset, second_offset_2, second_at, second_at_2) at c.part_between-seconds.ensures.value in
    let nanosecond_at = c.nanosecond.ensures.value ∙ ap (λ (t : ℕ). nanosecond_of t) c.time-at.ensures.value in
    let nanosecond_at_2 = c.nanosecond-2.ensures.value ∙ ap (λ (t : ℕ). nanosecond_of t) c.time-other_at.ensures.value in
    let fraction = rw (nanosecond_at, nanosecond_at_2) at c.fractions_between-fractions.ensures.value in
    let days_back : to_z w64 (of_z w64 c.days_between-days.result) ≡ c.days_between-days.result = search rules in
    let hours_back : to_z w64 (of_z w64 c.part_between-hours.result) ≡ c.part_between-hours.result = search rules in
    let minutes_back : to_z w64 (of_z w64 c.part_between-minutes.result) ≡ c.part_between-minutes.result = search rules in
    let seconds_back : to_z w64 (of_z w64 c.part_between-seconds.result) ≡ c.part_between-seconds.result = search rules in
    let fraction_back : to_z w64 (of_z w64 c.fractions_between-fractions.result) ≡ c.fractions_between-fractions.result = search rules in
    let sum_back : to_z w64 (of_z w64 c.in_seconds.result) ≡ c.in_seconds.result = search rules in
    let back : to_z w64 (of_z w64 c.in_nanoseconds.result) ≡ c.in_nanoseconds.result = search rules in
    let whole = rw (days_back, hours_back, minutes_back, seconds_back) at c.in_seconds.ensures.value in
    let sum = rw (sum_back ∙ whole, fraction_back) at c.in_nanoseconds.ensures in
    back ∙ difference_within_year
    c.args.self
    c.args.other
    c.days_between-days.result
    c.part_between-hours.result
    c.part_between-minutes.result
    c.part_between-seconds.result
    c.fractions_between-fractions.result
    c.in_nanoseconds.result
    c.requires
    days
    hours
    minutes
    seconds
    fraction
    sum

pub returns-clause-sign : goal.returns-clause-sign
returns-clause-sign c = int_cmp-difference _ (instant_of c.args.self) (instant_of c.args.other) (returns-clause-value c)
