use Rattle.std.proofs.Common.{◌≡◌, Bool, arith, ap, ◌∙◌}
use Rattle.calendar_values.specs.Calendar.{year_start, is_leap_year, days_before_month}
use Rattle.calendar_values.specs.Month.{month_number}
use Rattle.calendar_values.specs.SignedArith.{signed_casts}
use Rattle.zones.proofs.RuleLemmas.{back_y, back_year}
use Rattle.zones.proofs.rule_day.month_start.Goals as goal

pub returns-clause-value : goal.returns-clause-value
returns-clause-value c =
    let ys : c.year_start.result ≡ year_start c.args.year = c.year_start.ensures.value ∙ ap year_start (back_y c.args.year c.requires) in
    let leap : c.is_leap_year.result ≡ is_leap_year c.args.year = c.is_leap_year.ensures ∙ ap is_leap_year (back_year c.args.year c.requires) in
    let days = c.days_before-days.ensures.value ∙ ap (λ (b : Bool). days_before_month b (month_number c.args.month)) leap in
    omega (arith, signed_casts)
