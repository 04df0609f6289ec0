use Rattle.stamps.proofs.AheadLemmas.{Reads-behind}
use Rattle.stamps.proofs.ahead.AheadRead.read.Goals as goal

pub returns-in-None-clause-bytes : goal.returns-in-None-clause-bytes
returns-in-None-clause-bytes g c =
    rw c.free.ensures.inner at (Reads-behind _ _ _ _ _ _ c.free.ensures.before c.free.ensures.after c.read.ensures.bytes)
