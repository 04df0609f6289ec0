use Rattle.std.proofs.Common.{◌≡◌, true, false, pos, ◌+ℤ◌, ◌-ℤ◌, arith, sym, ap, ◌∙◌}
use Rattle.calendar_values.specs.Calendar.{year_start, is_leap_year}
use Rattle.calendar_values.specs.SignedArith.{signed_casts}
use Rattle.zones.specs.declared.rule_day.RuleDay.TheVariants.{Common}
use Rattle.zones.specs.Rules.{rule_day}
use Rattle.zones.proofs.RuleLemmas.{back_y, back_year, day_of_common_late, day_of_common, late_leap, no_leap}
use Rattle.zones.proofs.rule_day.common_day.Goals as goal
use Rattle.zones.proofs.rule_day.common_day.Goals.{else-n-ge60-via-then-n-ge60+else-is_leap_year, else-n-ge60-via-else-n-ge60}

pub returns-then-is_leap_year-clause-value : goal.returns-then-is_leap_year-clause-value
returns-then-is_leap_year-clause-value c =
    let ys : c.year_start-start.result ≡ year_start c.args.year = c.year_start-start.ensures.value ∙ ap year_start (back_y c.args.year c.requires.year_in)
    in
    let leap : is_leap_year c.args.year ≡ true = sym (ap is_leap_year (back_year c.args.year c.requires.year_in)) ∙ sym c.is_leap_year.ensures ∙
    c.if-is_leap_year.true in
    let d = day_of_common_late c.args.year c.args.n leap (omega arith) in
    omega (arith, signed_casts)

pub returns-else-n-ge60-clause-value : goal.returns-else-n-ge60-clause-value
returns-else-n-ge60-clause-value c =
    let ys : c.year_start-start.result ≡ year_start c.args.year = c.year_start-start.ensures.value ∙ ap year_start (back_y c.args.year c.requires.year_in)
    in
    let d : rule_day (Common c.args.n) c.args.year ≡ year_start c.args.year +ℤ pos c.args.n -ℤ pos 1 = elim c.else-n-ge60.branch [
      | else-n-ge60-via-then-n-ge60+else-is_leap_year w ↦
          let leap : is_leap_year c.args.year ≡ false = sym (ap is_leap_year (back_year c.args.year c.requires.year_in)) ∙ sym w.is_leap_year.ensures ∙
          w.if-is_leap_year.false in
          day_of_common c.args.year c.args.n (no_leap c.args.year c.args.n leap)
      | else-n-ge60-via-else-n-ge60 w ↦ day_of_common c.args.year c.args.n (late_leap c.args.year c.args.n (omega arith))
    ] in
    omega (arith, signed_casts)

pub returns-else-n-ge60-clause-low : goal.returns-else-n-ge60-clause-low
returns-else-n-ge60-clause-low c =
    let ys : c.year_start-start.result ≡ year_start c.args.year = c.year_start-start.ensures.value ∙ ap year_start (back_y c.args.year c.requires.year_in)
    in
    omega (arith, signed_casts)

pub returns-else-n-ge60-clause-high : goal.returns-else-n-ge60-clause-high
returns-else-n-ge60-clause-high c =
    let ys : c.year_start-start.result ≡ year_start c.args.year = c.year_start-start.ensures.value ∙ ap year_start (back_y c.args.year c.requires.year_in)
    in
    omega (arith, signed_casts)
