use Rattle.stamps.proofs.AheadLemmas.{again_taken, front_taken}
use Rattle.stamps.proofs.ahead.Ahead.read_again.Goals as goal

pub returns-clause-taken : goal.returns-clause-taken
returns-clause-taken g c =
    again_taken c.args.self.now.head.items c.copy_front-count.new.to c.args.self.now.served c.copy_front-count.result
    (rw c.head.ensures at (front_taken _ _ c.copy_front-count.new.to c.copy_front-count.result
    c.copy_front-count.ensures.within c.copy_front-count.ensures.copied))
