use Rattle.std.proofs.Common.{refl, [], ◌∷◌, ◌++◌, append_assoc}
use Rattle.std.proofs.lemmas.Result.{err_from_is_err_and, MatchResult-weaker}
use Rattle.line_devices.specs.FaultLemmas.{fault-not_ok}
use Rattle.stamps.proofs.PartLemmas.{begun}
use Rattle.stamps.proofs.StepLemmas.{kept_is, other_is, kept_of, decided_of, fresh_line, line_fault}
use Rattle.stamps.proofs.lines.decide_line.Goals as goal

pub returns-in_err-work-clause-ends : goal.returns-in_err-work-clause-ends
returns-in_err-work-clause-ends g c =
    let p = err_from_is_err_and c.from_residual.result c.from_residual.ensures.1 in
    let part = c.args.part.now in
    let fresh = c.is_fresh.ensures.fresh c.if-is_fresh.true in
    rw (p.1, p.2) (λ base taken more h.
    let k = kept_of c.args.task.now base _ _ c.args.work.now taken h fresh.0 in
    line_fault c.args.task.now base _ _ c.args.pending.now c.begin.new.pending c.args.work.now taken part more part c.begin.new.state _ k c.requires
    (fresh_line taken part c.args.work.now.head k.head fresh.1) c.in_err-work.ensures.begins)

pub returns-then-is_fresh-clause-decided : goal.returns-then-is_fresh-clause-decided
returns-then-is_fresh-clause-decided g c = λ ok base taken h.
    let part = c.args.part.now in
    let fresh = c.is_fresh.ensures.fresh c.if-is_fresh.true in
    let k = kept_of c.args.task.now base _ _ c.args.work.now taken h fresh.0 in
    begun c.args.task.now base _ _ c.args.pending.now c.begin.new.pending c.args.work.now _ taken part part c.in_ok-work.field-0 k c.requires
    (fresh_line taken part c.args.work.now.head k.head fresh.1) c.in_ok-work.ensures.state refl c.in_ok-work.ensures.begins

pub returns-then-is_kept-clause-decided : goal.returns-then-is_kept-clause-decided
returns-then-is_kept-clause-decided g c = λ ok base taken h.
    c.begin_kept.ensures.decided ok base (taken ++ c.args.part.now)
    (kept_of c.args.task.now base _ _ c.take_part.new.work (taken ++ c.args.part.now) (c.in_ok-take_part.ensures.stands refl base taken h)
    (kept_is _ _ c.is_kept.ensures c.if-is_kept.true))

pub returns-then-is_kept-clause-ends : goal.returns-then-is_kept-clause-ends
returns-then-is_kept-clause-ends g c =
    MatchResult-weaker c.begin_kept.result c.begin_kept.ensures.ends (λ _ u. u)
    (λ fault f base taken more h. f base (taken ++ c.args.part.now) more
    (kept_of c.args.task.now base _ _ c.take_part.new.work (taken ++ c.args.part.now) (c.in_ok-take_part.ensures.stands refl base taken h)
    (kept_is _ _ c.is_kept.ensures c.if-is_kept.true)))

pub returns-clause-decided : goal.returns-clause-decided
returns-clause-decided g c = λ ok base taken h.
    (decided_of c.args.task.now base _ _ c.take_part.new.work (taken ++ c.args.part.now) (c.in_ok-take_part.ensures.stands refl base taken h)
    (other_is _ _ c.is_kept.ensures c.if-is_kept.false)).0

pub returns-in_err-take_part-clause-ends : goal.returns-in_err-take_part-clause-ends
returns-in_err-take_part-clause-ends g c =
    let p = err_from_is_err_and c.from_residual-in_err-take_part.result c.from_residual-in_err-take_part.ensures.1 in
    rw (p.1, p.2) (λ base taken more h.
    rw (append_assoc (taken ++ c.args.part.now) (10 ∷ []) more) (c.in_err-take_part.ensures.ends base taken (10 ∷ more) h))

pub returns-in_err-work-clause-decided : goal.returns-in_err-work-clause-decided
returns-in_err-work-clause-decided g c = λ ok. absurd (fault-not_ok _ c.from_residual.result c.from_residual.ensures.1 ok)

pub returns-in_err-take_part-clause-decided : goal.returns-in_err-take_part-clause-decided
returns-in_err-take_part-clause-decided g c =
    λ ok. absurd (fault-not_ok _ c.from_residual-in_err-take_part.result c.from_residual-in_err-take_part.ensures.1 ok)
