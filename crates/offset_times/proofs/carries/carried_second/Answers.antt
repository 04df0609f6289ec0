use Rattle.std.proofs.Common.{arith, sym, ◌∙◌}
use Rattle.calendar_values.specs.SignedArith.{signed_arith}
use Rattle.offset_times.specs.Carries.{carried_second, minutes_carried}
use Rattle.offset_times.proofs.CarryLemmas.{second-stays}
use Rattle.offset_times.proofs.carries.carried_second.Goals as goal

pub returns-clause-second : goal.returns-clause-second
unfolding carried_second
returns-clause-second c = omega (arith, signed_arith)

pub returns-clause-minutes : goal.returns-clause-minutes
unfolding minutes_carried
returns-clause-minutes c = omega (arith, signed_arith)

pub returns-then-from-to-clause-second : goal.returns-then-from-to-clause-second
returns-then-from-to-clause-second c =
    let from = c.seconds_past_minute-from.ensures in
    let to = c.seconds_past_minute-to.ensures in
    c.second.ensures.value ∙ sym (second-stays c.args.time c.args.from c.args.to _ _ from.value to.value from.in_range to.in_range c.if-from-to.true).0

pub returns-then-from-to-clause-minutes : goal.returns-then-from-to-clause-minutes
returns-then-from-to-clause-minutes c =
    let from = c.seconds_past_minute-from.ensures in
    let to = c.seconds_past_minute-to.ensures in
    sym (second-stays c.args.time c.args.from c.args.to _ _ from.value to.value from.in_range to.in_range c.if-from-to.true).1

pub carry_sixty-requires-clause-from : goal.carry_sixty-requires-clause-from
carry_sixty-requires-clause-from c = omega (arith, signed_arith, c.seconds_past_minute-from.ensures.in_range)

pub carry_sixty-requires-clause-to : goal.carry_sixty-requires-clause-to
carry_sixty-requires-clause-to c = omega (arith, signed_arith, c.seconds_past_minute-to.ensures.in_range)
