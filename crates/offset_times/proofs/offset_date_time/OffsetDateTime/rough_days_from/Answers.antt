use Rattle.std.proofs.Common.{◌∙◌, ap, arith, ℤ}
use Rattle.calendar_values.specs.Calendar.{year_of, ordinal_of}
use Rattle.calendar_values.specs.SignedArith.{signed_casts}
use Rattle.calendar_values.specs.WallClock.{wall_day}
use Rattle.offset_times.proofs.InstantOrderLemmas.{later_by_dates}
use Rattle.offset_times.proofs.offset_date_time.OffsetDateTime.rough_days_from.Goals as goal

pub returns-clause-later : goal.returns-clause-later
returns-clause-later c = λ far.
    let year = c.to_ordinal_date-day.ensures.year ∙ ap (λ (w : ℤ). year_of (wall_day w)) c.date_time.ensures.value in
    let ordinal = c.to_ordinal_date-day.ensures.ordinal ∙ ap (λ (w : ℤ). ordinal_of (wall_day w)) c.date_time.ensures.value in
    let other_year = c.to_ordinal_date.ensures.year ∙ ap (λ (w : ℤ). year_of (wall_day w)) c.date_time-2.ensures.value in
    let other_ordinal = c.to_ordinal_date.ensures.ordinal ∙ ap (λ (w : ℤ). ordinal_of (wall_day w)) c.date_time-2.ensures.value in
    later_by_dates c.args.self c.args.other c.date_time.ensures.self_in_range c.date_time-2.ensures.self_in_range (omega (arith, signed_casts))

pub returns-clause-earlier : goal.returns-clause-earlier
returns-clause-earlier c = λ far.
    let year = c.to_ordinal_date-day.ensures.year ∙ ap (λ (w : ℤ). year_of (wall_day w)) c.date_time.ensures.value in
    let ordinal = c.to_ordinal_date-day.ensures.ordinal ∙ ap (λ (w : ℤ). ordinal_of (wall_day w)) c.date_time.ensures.value in
    let other_year = c.to_ordinal_date.ensures.year ∙ ap (λ (w : ℤ). year_of (wall_day w)) c.date_time-2.ensures.value in
    let other_ordinal = c.to_ordinal_date.ensures.ordinal ∙ ap (λ (w : ℤ). ordinal_of (wall_day w)) c.date_time-2.ensures.value in
    later_by_dates c.args.other c.args.self c.date_time-2.ensures.self_in_range c.date_time.ensures.self_in_range (omega (arith, signed_casts))
