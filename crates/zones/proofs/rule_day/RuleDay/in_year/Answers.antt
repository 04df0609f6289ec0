use Rattle.std.proofs.Common.{◌≡◌, ℤ, FitsSigned, arith, ap, ◌∙◌}
use mir.Syntax.{w64}
use Rattle.calendar_values.specs.Calendar.{year_start, is_leap_year, days_in_month}
use Rattle.calendar_values.specs.Month.{month_number}
use Rattle.calendar_values.specs.SignedArith.{signed_casts}
use Rattle.zones.specs.Rules.{month_start, nth_weekday}
use Rattle.zones.proofs.RuleLemmas.{back_y, day_of_weekday, day_of_counted}
use Rattle.zones.proofs.rule_day.RuleDay.in_year.Goals as goal

pub returns-in-Weekday-clause-value : goal.returns-in-Weekday-clause-value
returns-in-Weekday-clause-value c =
    let v = c.weekday_of_month.ensures.value ∙ ap
    (λ (y : ℤ). nth_weekday (month_start y (month_number c.in-Weekday.month)) (days_in_month (is_leap_year y) (month_number c.in-Weekday.month))
    c.in-Weekday.week c.in-Weekday.weekday) (back_y c.args.year c.requires.year_in) in
    let fit : FitsSigned w64 c.weekday_of_month.result = record { sfits = c.weekday_of_month.type_inv } in
    let d = day_of_weekday c.args.year c.in-Weekday.month c.in-Weekday.week c.in-Weekday.weekday in
    rw c.in-Weekday.is (omega (arith, signed_casts))

pub returns-in-Counted-clause-value : goal.returns-in-Counted-clause-value
returns-in-Counted-clause-value c =
    let ys : c.year_start.result ≡ year_start c.args.year = c.year_start.ensures.value ∙ ap year_start (back_y c.args.year c.requires.year_in) in
    let d = day_of_counted c.args.year c.in-Counted.n in
    rw c.in-Counted.is (omega (arith, signed_casts))
