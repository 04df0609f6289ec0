use Rattle.stamps.proofs.LeadingLemmas.{suffice_other}
use Rattle.stamps.proofs.leading.suffice.Goals as goal

pub returns-then-spans-ne2 : goal.returns-then-spans-ne2
returns-then-spans-ne2 c = λ within. suffice_other c.args.head.now c.args.spans.now c.if-spans-ne2.true
