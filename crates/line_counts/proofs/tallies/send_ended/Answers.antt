use Rattle.std.proofs.Common.{sym, ◌∙◌}
use Rattle.std.proofs.lemmas.Result.{err_from_is_err_and, MatchResult-weaker}
use Rattle.line_counts.proofs.RowLemmas.{ended_cut, ended_sent, row_cut}
use Rattle.line_counts.proofs.tallies.send_ended.Goals as goal

pub returns-in_err-send_row-clause-sent : goal.returns-in_err-send_row-clause-sent
returns-in_err-send_row-clause-sent g c =
    let p = err_from_is_err_and c.from_residual.result c.from_residual.ensures.1 in
    rw (p.1, sym c.is_same.ensures ∙ c.if-is_same.false) (row_cut _ _ c.args.pending.now _ _ c.in_err-send_row.ensures.sent)

pub returns-clause-sent : goal.returns-clause-sent
returns-clause-sent g c =
    let rest = rw c.next.ensures at c.send_empty.ensures.sent in
    rw (sym c.is_same.ensures ∙ c.if-is_same.false)
    (MatchResult-weaker c.send_empty.result rest
    (λ _ h. ended_sent _ _ _ c.args.pending.now c.send_row.new.pending _ _ _ c.in_ok-send_row.ensures.sent h)
    (λ _ h. ended_cut _ _ _ c.args.pending.now c.send_row.new.pending _ _ c.in_ok-send_row.ensures.sent h))
