use Rattle.std.proofs.Common.{refl, sym}
use Rattle.rfc3339.proofs.RangeLemmas.{back_year, no_day_of_month, full_date_meaning-month, full_date_meaning-day, full_date_meaning-date}
use Rattle.rfc3339.proofs.full_dates.date.Goals as goal

pub returns-in_default : goal.returns-in_default
returns-in_default c =
    full_date_meaning-month c.args.year c.args.month c.args.day (λ month. let never = c.in_default.ensures.accepted.1 month in absurd cc)

pub returns-in_default-from_calendar_date : goal.returns-in_default-from_calendar_date
returns-in_default-from_calendar_date c =
    let year = back_year c.args.year c.requires.year in
    let refused = c.in_default-from_calendar_date.ensures.value.value in
    full_date_meaning-day c.args.year c.args.month c.args.day (c.in-Ok.ensures.accepted.0 refl)
    (no_day_of_month c.args.year c.args.month c.args.day _ _ year c.in-Ok.ensures.value c.requires.year refused)

pub returns : goal.returns
returns c =
    let year = back_year c.args.year c.requires.year in
    let month = c.in-Ok.ensures.value in
    let date = c.in-Ok-from_calendar_date.ensures.value.value in
    let day = rw (year, month) at date.0.1 in
    rw (date.1, year, month) (sym (full_date_meaning-date c.args.year c.args.month c.args.day (c.in-Ok.ensures.accepted.0 refl) day))
