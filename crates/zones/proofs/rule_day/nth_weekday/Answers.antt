use Rattle.std.proofs.Common.{◌≡◌, ℤ, to_z, of_z, arith, ap, ◌∙◌}
use mir.Syntax.{w64}
use Rattle.calendar_values.specs.SignedArith.{signed_casts}
use Rattle.zones.specs.Rules.{ahead_to, days_to_week}
use Rattle.zones.proofs.RuleLemmas.{is_nth}
use Rattle.zones.proofs.rule_day.nth_weekday.Goals as goal

pub returns-clause-value : goal.returns-clause-value
returns-clause-value c =
    let ahead : c.rem_euclid-ahead.result ≡ ahead_to c.args.first c.args.weekday = omega (arith, signed_casts) in
    let back : to_z w64 (of_z w64 c.rem_euclid-ahead.result) ≡ ahead_to c.args.first c.args.weekday = omega (arith, signed_casts) in
    let d = c.days_to_week.ensures.value ∙ ap (λ (z : ℤ). days_to_week z c.args.length c.args.week) back in
    omega (arith, signed_casts)

pub returns-clause-place : goal.returns-clause-place
returns-clause-place c =
    let ahead : c.rem_euclid-ahead.result ≡ ahead_to c.args.first c.args.weekday = omega (arith, signed_casts) in
    let back : to_z w64 (of_z w64 c.rem_euclid-ahead.result) ≡ ahead_to c.args.first c.args.weekday = omega (arith, signed_casts) in
    let d = c.days_to_week.ensures.value ∙ ap (λ (z : ℤ). days_to_week z c.args.length c.args.week) back in
    is_nth c.args.first c.args.length c.args.week c.args.weekday _ c.requires.length_low c.requires.length_high c.requires.week_in c.requires.weekday_in
    (omega (arith, signed_casts))
