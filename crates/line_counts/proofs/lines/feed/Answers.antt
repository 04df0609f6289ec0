use Rattle.std.proofs.Common.{arith, ◌∙◌, ◌++◌, take}
use Rattle.std.proofs.lemmas.Result.{err_from_is_err_and}
use Rattle.std.proofs.lemmas.List.{take_all, length-drop}
use Rattle.line_counts.proofs.BlockLemmas.{between-end, front_joined, rest_joined}
use Rattle.line_counts.proofs.StandLemmas.{stands_cut, stands_flushed}
use Rattle.line_counts.proofs.lines.feed.Goals as goal

pub lines-preserved : goal.lines-preserved
lines-preserved g c =
    let block = c.args.block.now in
    let place = c.lines.place in
    record {
      within = let few = rw (between-end block place) at c.in_ok-place.ensures.count.1 in omega (arith, few, length-drop place block);
      stands = λ base taken h.
          rw (← front_joined taken block place c.in_ok-place.field-0)
          (c.in_ok-place.ensures.stands base (taken ++ take place block) (c.lines.invariant.stands base taken h));
      mark = c.in_ok-place.ensures.mark ∙ c.lines.invariant.mark;
    }

pub returns-in_err-place-clause-ends : goal.returns-in_err-place-clause-ends
returns-in_err-place-clause-ends g c =
    let p = err_from_is_err_and c.from_residual.result c.from_residual.ensures.1 in
    rw (p.1, p.2) (λ base taken more h.
    rw (← rest_joined taken c.args.block.now c.lines.place)
    (c.in_err-place.ensures.ends base (taken ++ take c.lines.place c.args.block.now) more (c.lines.invariant.stands base taken h)))

pub returns-in_err-flush-clause-ends : goal.returns-in_err-flush-clause-ends
returns-in_err-flush-clause-ends g c =
    let p = err_from_is_err_and c.from_residual-in_err-flush.result c.from_residual-in_err-flush.ensures.1 in
    rw (p.1, p.2) (λ base taken more h.
    stands_cut (g.B.Buckets.counting c.args.buckets.now) c.args.is_strict base _ _ c.lines.pending c.lines.work (taken ++ c.args.block.now) more
    (rw (take_all c.lines.place c.args.block.now (omega arith)) at (c.lines.invariant.stands base taken h)) c.in_err-flush.ensures.written)

pub returns-clause-stands : goal.returns-clause-stands
returns-clause-stands g c = λ ok base taken h.
    rw c.in_ok-flush.ensures.empty
    (stands_flushed (g.B.Buckets.counting c.args.buckets.now) c.args.is_strict base _ _ c.lines.pending c.lines.work (taken ++ c.args.block.now)
    (rw (take_all c.lines.place c.args.block.now (omega arith)) at (c.lines.invariant.stands base taken h)) c.in_ok-flush.ensures.written)
