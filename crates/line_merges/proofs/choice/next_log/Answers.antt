use Rattle.std.proofs.Common.{◌∙◌, sym, subst}
use Rattle.line_merges.specs.Choices.{log_fronts}
use Rattle.line_merges.proofs.ChoiceLemmas.{BestBelow, fronts-at, best-ended, best-kept, best-taken, best-end, none-end}
use Rattle.line_merges.proofs.choice.next_log.Goals as goal
use Rattle.line_merges.proofs.choice.next_log.Goals.{then-log+then-is_better, else-log, else-log-via-then-log+else-is_better, else-log-via-else-log}

pub loop-k-preserved : goal.loop-k-preserved
loop-k-preserved g c =
    let fronts = log_fronts c.args.logs.now in
    let here = fronts-at c.args.logs.now c.loop-k.k c.index-logs-k.result c.loop-k-test.true c.index-logs-k.is in
    elim c.if-log.branch [
      | then-log+then-is_better w ↦
          rw w.best-is (best-taken c.loop-k.k fronts c.loop-k.best _ here w.if-log.true (sym w.is_better.ensures ∙ w.if-is_better.true) c.loop-k.invariant)
      | else-log w ↦
          rw w.best-is (elim w.else-log.branch [
            | else-log-via-then-log+else-is_better w' ↦
                best-kept c.loop-k.k fronts c.loop-k.best _ here (sym w'.is_better.ensures ∙ w'.if-is_better.false) c.loop-k.invariant
            | else-log-via-else-log w' ↦ best-ended c.loop-k.k fronts c.loop-k.best _ here w'.if-log.false c.loop-k.invariant
          ])
    ]

pub returns-in-Some-clause-next : goal.returns-in-Some-clause-next
returns-in-Some-clause-next g c =
    best-end c.loop-k.k c.args.logs.now (c.in-Some.k, c.in-Some.field-0-1) c.loop-k-test.false
    (subst (BestBelow c.loop-k.k (log_fronts c.args.logs.now)) c.in-Some.is c.loop-k.invariant)

pub returns-in-None-clause-ended : goal.returns-in-None-clause-ended
returns-in-None-clause-ended g c =
    none-end c.loop-k.k c.args.logs.now c.loop-k-test.false (subst (BestBelow c.loop-k.k (log_fronts c.args.logs.now)) c.in-None.is c.loop-k.invariant)
