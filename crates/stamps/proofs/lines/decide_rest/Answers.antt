use Rattle.std.proofs.Common.{inr}
use Rattle.std.proofs.lemmas.Result.{MatchResult-weaker}
use Rattle.stamps.proofs.StepLemmas.{kept_is, other_is, kept_of, decided_of, some_line, long_settled, empty_settled}
use Rattle.stamps.proofs.lines.decide_rest.Goals as goal

pub returns-then-is_fresh-clause-settled : goal.returns-then-is_fresh-clause-settled
returns-then-is_fresh-clause-settled g c = λ ok base taken h.
    let fresh = c.is_fresh.ensures.fresh c.if-is_fresh.true in
    empty_settled c.args.task.now base _ _ c.args.work.now taken (kept_of c.args.task.now base _ _ c.args.work.now taken h fresh.0) fresh.1

pub returns-then-is_kept-clause-settled : goal.returns-then-is_kept-clause-settled
returns-then-is_kept-clause-settled g c = λ ok base taken h.
    let is = kept_is _ _ c.is_kept.ensures c.if-is_kept.true in
    let k = kept_of c.args.task.now base _ _ c.args.work.now taken h is in
    inr (
      c.begin_kept.ensures.decided ok base taken k,
      some_line c.args.task.now base _ _ c.args.work.now taken k (c.is_fresh.ensures.begun c.if-is_fresh.false is),
    )

pub returns-then-is_kept-clause-ends : goal.returns-then-is_kept-clause-ends
returns-then-is_kept-clause-ends g c =
    let is = kept_is _ _ c.is_kept.ensures c.if-is_kept.true in
    MatchResult-weaker c.begin_kept.result c.begin_kept.ensures.last (λ _ u. u)
    (λ fault f base taken h. f base taken (kept_of c.args.task.now base _ _ c.args.work.now taken h is) (c.is_fresh.ensures.begun c.if-is_fresh.false is))

pub returns-clause-settled : goal.returns-clause-settled
returns-clause-settled g c = λ ok base taken h.
    long_settled c.args.task.now base _ _ c.args.work.now taken
    (decided_of c.args.task.now base _ _ c.args.work.now taken h (other_is _ _ c.is_kept.ensures c.if-is_kept.false))
