use Rattle.std.proofs.Common.{refl}
use Rattle.std.proofs.lemmas.Result.{err_from_is_err_and}
use Rattle.stamps.proofs.StepLemmas.{kept_fault, kept_begun, rest_fault}
use Rattle.stamps.proofs.lines.begin_kept.Goals as goal

pub returns-in_err-work-clause-ends : goal.returns-in_err-work-clause-ends
returns-in_err-work-clause-ends g c =
    let p = err_from_is_err_and c.from_residual.result c.from_residual.ensures.1 in
    rw (p.1, p.2) (λ base taken more k. kept_fault c.args.task.now base _ _ c.args.pending.now c.begin.new.pending c.args.work.now taken more c.items.result.now
    c.begin.new.state _ k c.items.ensures.value c.in_err-work.ensures.begins)

pub returns-in_err-work-clause-last : goal.returns-in_err-work-clause-last
returns-in_err-work-clause-last g c =
    let p = err_from_is_err_and c.from_residual.result c.from_residual.ensures.1 in
    rw (p.1, p.2) (λ base taken k some. rest_fault c.args.task.now base _ _ c.args.pending.now c.begin.new.pending c.args.work.now taken c.items.result.now
    c.begin.new.state _ k some c.items.ensures.value c.in_err-work.ensures.begins)

pub returns-clause-decided : goal.returns-clause-decided
returns-clause-decided g c = λ ok base taken k.
    kept_begun c.args.task.now base _ _ c.args.pending.now c.begin.new.pending c.args.work.now _ taken c.items.result.now c.in_ok-work.field-0 k
    c.items.ensures.value c.in_ok-work.ensures.state refl c.in_ok-work.ensures.begins
