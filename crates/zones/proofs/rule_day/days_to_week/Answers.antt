use Rattle.std.proofs.Common.{arith}
use Rattle.calendar_values.specs.SignedArith.{signed_casts}
use Rattle.zones.proofs.RuleLemmas.{week_then, week_else}
use Rattle.zones.proofs.rule_day.days_to_week.Goals as goal

pub returns-then-day-length-clause-value : goal.returns-then-day-length-clause-value
returns-then-day-length-clause-value c =
    let v = week_then c.args.ahead c.args.length c.args.week (omega (arith, signed_casts)) in
    omega (arith, signed_casts)

pub returns-else-day-length-clause-value : goal.returns-else-day-length-clause-value
returns-else-day-length-clause-value c =
    let v = week_else c.args.ahead c.args.length c.args.week (omega (arith, signed_casts)) in
    omega (arith, signed_casts)
