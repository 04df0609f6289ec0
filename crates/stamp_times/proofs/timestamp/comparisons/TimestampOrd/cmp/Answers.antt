use Rattle.stamp_times.proofs.TimestampOrderLemmas.{int_cmp-instant_of_parts}
use Rattle.stamp_times.proofs.timestamp.comparisons.TimestampOrd.cmp.Goals as goal

pub returns : goal.returns
returns c =
    rw (c.then.ensures, c.cmp.ensures, c.cmp-2.ensures, ← c.self.view_is, ← c.other.view_is)
    (int_cmp-instant_of_parts c.self.inside.seconds c.other.inside.seconds c.self.inside.nanosecond c.other.inside.nanosecond c.self.invariant.1
    c.other.invariant.1)
