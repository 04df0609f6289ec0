use Rattle.calendar_values.proofs.DurationLemmas.{int_cmp-duration_of_parts}
use Rattle.calendar_values.proofs.signed_duration.comparisons.SignedDurationOrd.cmp.Goals as goal

pub returns : goal.returns
returns c =
    rw (c.then.ensures, c.cmp.ensures, c.cmp-2.ensures, ← c.self.view_is, ← c.other.view_is)
    (int_cmp-duration_of_parts _ _ _ _ c.self.invariant c.other.invariant)
