use Rattle.std.proofs.Common.{refl, take}
use Rattle.stamps.proofs.TurnLemmas.{read_fails, block_taken, block_fails, input_ends, end_fails, Turns-fault, Turns-more}
use Rattle.stamps.proofs.stamps.take_block.Goals as goal

pub returns-in_default : goal.returns-in_default
returns-in_default g c = λ first taken h.
    read_fails c.args.task.now first _ _ _ _ taken h c.in_default.ensures.consumed c.in_default.ensures.mark refl refl

pub returns-in_err-finish : goal.returns-in_err-finish
returns-in_err-finish g c = λ first taken h.
    let none = rw c.if-count-eq0.true at c.in-Ok.ensures.consumed.0 in
    let end = c.in-Ok.ensures.consumed.1 c.if-count-eq0.true (rw c.read_some.auto.buffer c.requires.block) in
    Turns-fault c.args.task.now first _ _ _ taken c.from_residual.result _ c.from_residual.ensures.1
    (end_fails c.args.task.now first _ _ _ _ taken _ h none end (c.in_err-finish.ensures.ends _ taken h.stands) c.in-Ok.ensures.mark
    c.in_err-finish.ensures.mark)

pub returns-then-count-eq0 : goal.returns-then-count-eq0
returns-then-count-eq0 g c = λ first taken h.
    let none = rw c.if-count-eq0.true at c.in-Ok.ensures.consumed.0 in
    let end = c.in-Ok.ensures.consumed.1 c.if-count-eq0.true (rw c.read_some.auto.buffer c.requires.block) in
    input_ends c.args.task.now first _ _ _ _ _ taken h none end (c.in_ok-finish.ensures.completes refl _ taken h.stands) c.in-Ok.ensures.mark
    c.in_ok-finish.ensures.mark

pub returns-in_err-feed : goal.returns-in_err-feed
returns-in_err-feed g c = λ first taken h.
    Turns-fault c.args.task.now first _ _ _ taken c.from_residual-in_err-feed.result _ c.from_residual-in_err-feed.ensures.1
    (block_fails c.args.task.now first _ _ _ _ taken _ _ h c.in-Ok.ensures.consumed.0 (λ more. c.in_err-feed.ensures.ends _ taken more h.stands)
    c.in-Ok.ensures.mark c.in_err-feed.ensures.mark)

pub returns : goal.returns
returns g c = λ first taken h.
    let block = take c.in-Ok.count c.read_some.new.buffer in
    Turns-more c.args.task.now first _ _ _ taken c.read_some.new.buffer c.in-Ok.count c.if-count-eq0.false c.in-Ok.ensures.bound.1
    (block_taken c.args.task.now first _ _ _ _ _ _ taken block h c.in-Ok.ensures.consumed.0 (c.in_ok-feed.ensures.stands refl _ taken h.stands)
    c.in_ok-feed.ensures.empty c.in-Ok.ensures.mark c.in_ok-feed.ensures.mark)
