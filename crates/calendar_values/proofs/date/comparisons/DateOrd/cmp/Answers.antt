use Rattle.calendar_values.proofs.DayOrderLemmas.{cmp-ordinal_dates}
use Rattle.calendar_values.proofs.date.comparisons.DateOrd.cmp.Goals as goal

pub returns : goal.returns
returns c = rw (c.then.ensures, c.cmp-by_year.ensures, c.cmp.ensures, ← c.self.view_is, ← c.other.view_is)
    (cmp-ordinal_dates _ _ _ _ c.self.invariant.1 c.other.invariant.1)
