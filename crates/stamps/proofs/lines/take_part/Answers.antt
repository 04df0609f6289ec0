use Rattle.std.proofs.lemmas.Result.{MatchResult-weaker}
use Rattle.stamps.proofs.StepLemmas.{kept_is, other_is, kept_of, decided_of, pass_stands, pass_ends}
use Rattle.stamps.proofs.lines.take_part.Goals as goal

pub returns-then-is_kept-clause-stands : goal.returns-then-is_kept-clause-stands
returns-then-is_kept-clause-stands g c = λ ok base taken h.
    c.keep_part.ensures.stands ok base taken
    (kept_of c.args.task.now base _ _ c.args.work.now taken h (kept_is _ _ c.is_kept.ensures c.if-is_kept.true))

pub returns-then-is_kept-clause-ends : goal.returns-then-is_kept-clause-ends
returns-then-is_kept-clause-ends g c =
    MatchResult-weaker c.keep_part.result c.keep_part.ensures.ends (λ _ u. u)
    (λ fault f base taken more h. f base taken more
    (kept_of c.args.task.now base _ _ c.args.work.now taken h (kept_is _ _ c.is_kept.ensures c.if-is_kept.true)))

pub returns-clause-stands : goal.returns-clause-stands
returns-clause-stands g c = λ ok base taken h.
    pass_stands c.args.task.now base _ _ c.args.pending.now _ c.args.work.now taken c.args.part.now c.pass.result c.requires ok c.pass.ensures.passed
    (decided_of c.args.task.now base _ _ c.args.work.now taken h (other_is _ _ c.is_kept.ensures c.if-is_kept.false))

pub returns-clause-ends : goal.returns-clause-ends
returns-clause-ends g c =
    let ends = pass_ends c.args.task.now _ _ c.args.pending.now c.pass.new.pending c.args.work.now c.args.part.now c.pass.result c.requires
    c.pass.ensures.passed in
    MatchResult-weaker c.pass.result ends (λ _ u. u)
    (λ fault f base taken more h. f base taken more
    (decided_of c.args.task.now base _ _ c.args.work.now taken h (other_is _ _ c.is_kept.ensures c.if-is_kept.false)))
