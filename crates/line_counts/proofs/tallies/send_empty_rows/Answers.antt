use Rattle.std.proofs.Common.{◌≡◌, ◌+◌, ◌-◌, suc, arith, refl, sym, ◌∙◌}
use Rattle.std.proofs.lemmas.Result.{err_from_is_err_and}
use Rattle.line_counts.specs.Counting.{most}
use Rattle.line_counts.proofs.RowLemmas.{rows_cut, rows_end, rows_first, rows_next, rows_over}
use Rattle.line_counts.proofs.tallies.send_empty_rows.Goals as goal

pub rows-init : goal.rows-init
rows-init g c = record {
  rows = rows_first (g.B.Buckets.counting c.args.buckets.now) c.args.from c.args.to _ c.args.pending.now;
  mark = refl;
}

pub returns-then-not-is_before-clause-sent : goal.returns-then-not-is_before-clause-sent
returns-then-not-is_before-clause-sent g c =
    rows_end (g.B.Buckets.counting c.args.buckets.now) c.args.from c.args.to _ _ c.args.pending.now c.rows.pending _ c.rows.start c.rows.invariant.rows
    (sym c.is_before.ensures ∙ c.if-not-is_before.true)

pub returns-in_err-send_row-clause-sent : goal.returns-in_err-send_row-clause-sent
returns-in_err-send_row-clause-sent g c =
    let p = err_from_is_err_and c.from_residual.result c.from_residual.ensures.1 in
    let left : most - c.rows._row ≡ suc (most - (c.rows._row + 1)) = omega (arith, c.rows-test.true) in
    rw p.1
    (rows_cut (g.B.Buckets.counting c.args.buckets.now) c.args.from c.args.to _ _ _ c.args.pending.now c.rows.pending _ (most - (c.rows._row + 1)) c.rows.start
    c.rows.invariant.rows left (sym c.is_before.ensures ∙ c.if-not-is_before.false) c.in_err-send_row.ensures.sent)

pub rows-preserved : goal.rows-preserved
rows-preserved g c =
    let left : most - c.rows._row ≡ suc (most - (c.rows._row + 1)) = omega (arith, c.rows-test.true) in
    let next =
    rows_next (g.B.Buckets.counting c.args.buckets.now) c.args.from c.args.to _ _ _ c.args.pending.now c.rows.pending c.send_row.new.pending _
    (most - (c.rows._row + 1)) c.rows.start c.rows.invariant.rows left (sym c.is_before.ensures ∙ c.if-not-is_before.false) c.in_ok-send_row.ensures.sent in
    record { rows = rw c.next-start.ensures next; mark = c.in_ok-send_row.ensures.mark ∙ c.rows.invariant.mark }

pub returns-clause-sent : goal.returns-clause-sent
returns-clause-sent g c =
    rows_over (g.B.Buckets.counting c.args.buckets.now) c.args.from c.args.to _ _ c.args.pending.now c.rows.pending (most - c.rows._row) c.rows.start
    c.rows.invariant.rows (omega (arith, c.rows-test.false))
