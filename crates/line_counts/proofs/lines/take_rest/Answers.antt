use Rattle.std.proofs.lemmas.Result.{err_from_is_err_and}
use Rattle.line_counts.proofs.StandLemmas.{all_counted, all_ended, is_empty, last_falls, not_empty}
use Rattle.line_counts.proofs.lines.take_rest.Goals as goal

pub returns-then-is_empty-clause-sent : goal.returns-then-is_empty-clause-sent
returns-then-is_empty-clause-sent g c = λ ok base taken h.
    all_ended (g.B.Buckets.counting c.args.buckets.now) c.args.is_strict base _ c.args.pending.now c.args.work.now taken h
    (is_empty c.is_empty.result c.args.work.now.head c.is_empty.ensures c.if-is_empty.true)

pub returns-in_err-take_line-clause-ends : goal.returns-in_err-take_line-clause-ends
returns-in_err-take_line-clause-ends g c =
    let p = err_from_is_err_and c.from_residual.result c.from_residual.ensures.1 in
    rw (p.1, p.2) (λ base taken h.
    last_falls (g.B.Buckets.counting c.args.buckets.now) c.args.is_strict base _ _ c.args.pending.now c.args.work.now taken _ (
      g.met.B.Buckets.by_head
          c.args.buckets.now,
      g.met.B.Buckets.remembers_head c.args.buckets.now,
    ) h
    (not_empty c.is_empty.result c.args.work.now.head c.is_empty.ensures c.if-is_empty.false)
    (rw c.items.ensures.value at c.in_err-take_line.ensures.takes))

pub returns-clause-sent : goal.returns-clause-sent
returns-clause-sent g c = λ ok base taken h.
    all_counted (g.B.Buckets.counting c.args.buckets.now) c.args.is_strict base _ _ c.args.pending.now c.take_line.new.pending c.args.work.now _ taken
    (g.met.B.Buckets.by_head c.args.buckets.now, g.met.B.Buckets.remembers_head c.args.buckets.now) h
    (not_empty c.is_empty.result c.args.work.now.head c.is_empty.ensures c.if-is_empty.false)
    (rw c.items.ensures.value at c.in_ok-take_line.ensures.takes)
