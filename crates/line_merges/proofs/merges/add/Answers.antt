use Rattle.std.proofs.Common.{refl}
use Rattle.line_merges.proofs.StateLemmas.{new-append}
use Rattle.line_merges.proofs.merges.add.Goals as goal

pub returns-clause-new : goal.returns-clause-new
returns-clause-new g c = λ memories is new.
    rw c.in_ok-push.ensures.items
    (new-append memories g.R.Source.left g.R.Source.is_marked c.args.logs.now.items c.new.result new
    (rw c.new.ensures (c.requires.reader, refl, refl, refl, is)))

pub returns-in_err-push-clause-new : goal.returns-in_err-push-clause-new
returns-in_err-push-clause-new g c = λ memories is new. rw c.in_err-push.ensures.items new
