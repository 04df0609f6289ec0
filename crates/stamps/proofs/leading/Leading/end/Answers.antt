use Rattle.std.proofs.Common.{◌∙◌, arith, sym}
use Rattle.std.proofs.lemmas.Bool.{false≢true}
use Rattle.stamps.specs.Leading.{has_last}
use Rattle.stamps.proofs.LeadingLemmas.{looked_none}
use Rattle.stamps.proofs.leading.Leading.end.Goals as goal
use Rattle.stamps.proofs.leading.Leading.end.Goals.{then-self-via-then-self, then-self-via-else-self+then-self-head}

pub returns-then-self-clause-looked : goal.returns-then-self-clause-looked
returns-then-self-clause-looked c = λ lines not' looked.
    let self = c.args.self.now in
    let head = c.args.head.now in
    elim c.then-self.branch [
      | then-self-via-then-self w ↦ absurd (false≢true (sym not' ∙ w.if-self.true))
      | then-self-via-else-self+then-self-head w ↦
          looked_none c.args.reader.now head lines (has_last c.args.is_at_end self.has_text head) self (omega (arith, w.if-self-head.true)) looked
    ]
