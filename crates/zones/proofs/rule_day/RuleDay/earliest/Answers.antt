use Rattle.std.proofs.Common.{arith, subst}
use Rattle.calendar_values.specs.SignedArith.{signed_casts}
use Rattle.zones.specs.Rules.{IsRuleDay}
use Rattle.zones.proofs.RuleLemmas.{weekday_near, common_near, day_of_counted}
use Rattle.zones.proofs.rule_day.RuleDay.earliest.Goals as goal

pub returns-in-Weekday-clause-low : goal.returns-in-Weekday-clause-low
returns-in-Weekday-clause-low c = λ y.
    let h = c.earliest_in_month.ensures in
    let least = h.least in
    let most = h.most in
    let from = c.from.ensures in
    let day = subst IsRuleDay c.in-Weekday.is c.requires in
    let near = weekday_near c.in-Weekday.month c.in-Weekday.week c.in-Weekday.field-2 c.earliest_in_month.result day
    (λ l. rw from at (h.early l)) (λ l. rw from at (h.last l)) y in
    let low = near.0 in
    rw c.in-Weekday.is (omega (arith, signed_casts))

pub returns-in-Weekday-clause-high : goal.returns-in-Weekday-clause-high
returns-in-Weekday-clause-high c = λ y.
    let h = c.earliest_in_month.ensures in
    let least = h.least in
    let most = h.most in
    let from = c.from.ensures in
    let day = subst IsRuleDay c.in-Weekday.is c.requires in
    let near = weekday_near c.in-Weekday.month c.in-Weekday.week c.in-Weekday.field-2 c.earliest_in_month.result day
    (λ l. rw from at (h.early l)) (λ l. rw from at (h.last l)) y in
    let high = near.1 in
    rw c.in-Weekday.is (omega (arith, signed_casts))

pub returns-in-Common-clause-low : goal.returns-in-Common-clause-low
returns-in-Common-clause-low c = λ y.
    let day = subst IsRuleDay c.in-Common.is c.requires in
    let one = day.0 in
    let low = (common_near c.in-Common.n day y).0 in
    rw c.in-Common.is (omega (arith, signed_casts))

pub returns-in-Common-clause-high : goal.returns-in-Common-clause-high
returns-in-Common-clause-high c = λ y.
    let day = subst IsRuleDay c.in-Common.is c.requires in
    let one = day.0 in
    let high = (common_near c.in-Common.n day y).1 in
    rw c.in-Common.is (omega (arith, signed_casts))

pub returns-in-Counted-clause-low : goal.returns-in-Counted-clause-low
returns-in-Counted-clause-low c = λ y.
    let d = day_of_counted y c.in-Counted.n in
    rw c.in-Counted.is (omega (arith, signed_casts))

pub returns-in-Counted-clause-high : goal.returns-in-Counted-clause-high
returns-in-Counted-clause-high c = λ y.
    let d = day_of_counted y c.in-Counted.n in
    rw c.in-Counted.is (omega (arith, signed_casts))
