use Rattle.std.proofs.Common.{ap, arith, of_z, w32}
use Rattle.std.proofs.lemmas.Bool.Decides.{nat_tests}
use Rattle.calendar_values.proofs.DayOrderLemmas.{eq-ordinal_dates}
use Rattle.calendar_values.proofs.date.comparisons.DatePartialEq.eq.Goals as goal

pub returns-else-self-other : goal.returns-else-self-other
returns-else-self-other c =
    let differ = eq-ordinal_dates _ _ _ _ _ _ c.self.invariant.1 c.other.invariant.1 c.self.view_is c.other.view_is (λ same.
    c.if-self-other.false (ap (of_z w32) same)) in
    rw differ (grind (arith, nat_tests))
