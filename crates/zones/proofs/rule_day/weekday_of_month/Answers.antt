use Rattle.std.proofs.Common.{◌≡◌, ℕ, ℤ, to_z, of_z, arith, ap, ◌∙◌}
use mir.Syntax.{w64}
use Rattle.calendar_values.specs.Calendar.{is_leap_year, days_in_month}
use Rattle.calendar_values.specs.Month.{month_number}
use Rattle.calendar_values.specs.SignedArith.{signed_casts}
use Rattle.zones.specs.Rules.{month_start, nth_weekday}
use Rattle.zones.proofs.RuleLemmas.{back_y, back_year, month_bounds}
use Rattle.zones.proofs.rule_day.weekday_of_month.Goals as goal

same : (c : goal.After-nth_weekday) → c.nth_weekday.result ≡ nth_weekday (month_start c.args.year (month_number c.args.month))
    (days_in_month (is_leap_year c.args.year) (month_number c.args.month)) c.args.week c.args.weekday
same c =
    let ms : c.month_start.result ≡ month_start c.args.year (month_number c.args.month) = c.month_start.ensures.value ∙ ap
    (λ (y : ℤ). month_start y (month_number c.args.month)) (back_y c.args.year c.requires.year_in) in
    let length : c.days_in_month-length.result ≡ days_in_month (is_leap_year c.args.year) (month_number c.args.month) =
    c.days_in_month-length.ensures.value ∙ ap (λ (y : ℤ). days_in_month (is_leap_year y) (month_number c.args.month))
    (back_year c.args.year c.requires.year_in) in
    let first : to_z w64 (of_z w64 c.month_start.result) ≡ month_start c.args.year (month_number c.args.month) = omega (arith, signed_casts) in
    c.nth_weekday.ensures.value ∙ ap (λ (z : ℤ). nth_weekday z c.days_in_month-length.result c.args.week c.args.weekday) first
    ∙ ap (λ (n : ℕ). nth_weekday (month_start c.args.year (month_number c.args.month)) n c.args.week c.args.weekday) length

pub returns-clause-value : goal.returns-clause-value
returns-clause-value c =
    let s = same c in
    omega (arith, signed_casts)

pub returns-clause-low : goal.returns-clause-low
returns-clause-low c =
    let ms : c.month_start.result ≡ month_start c.args.year (month_number c.args.month) = c.month_start.ensures.value ∙ ap
    (λ (y : ℤ). month_start y (month_number c.args.month)) (back_y c.args.year c.requires.year_in) in
    let low = c.nth_weekday.ensures.place.low in
    omega (arith, signed_casts)

pub returns-clause-high : goal.returns-clause-high
returns-clause-high c =
    let ms : c.month_start.result ≡ month_start c.args.year (month_number c.args.month) = c.month_start.ensures.value ∙ ap
    (λ (y : ℤ). month_start y (month_number c.args.month)) (back_y c.args.year c.requires.year_in) in
    let length : c.days_in_month-length.result ≡ days_in_month (is_leap_year c.args.year) (month_number c.args.month) =
    c.days_in_month-length.ensures.value ∙ ap (λ (y : ℤ). days_in_month (is_leap_year y) (month_number c.args.month))
    (back_year c.args.year c.requires.year_in) in
    let high = c.nth_weekday.ensures.place.high in
    let fit = month_bounds c.args.year c.args.month in
    omega (arith, signed_casts)
