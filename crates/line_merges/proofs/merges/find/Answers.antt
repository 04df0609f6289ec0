use Rattle.std.proofs.Common.{length, refl, sym, ◌∙◌, ap}
use Rattle.line_merges.proofs.RunLemmas.{finds_cut, no_back_line, some_back_line}
use Rattle.line_merges.proofs.StepLemmas.{find_back, find_cut, find_stands, find_stop_cut}
use Rattle.line_merges.proofs.StateLemmas.{states-at, states-past, states-set, states-set_other}
use Rattle.line_merges.specs.LineFronts.{has_line_feed}
use Rattle.line_merges.specs.Runs.{log_states, output}
use Rattle.line_merges.proofs.merges.find.Goals as goal

pub returns-in-Err-clause-others : goal.returns-in-Err-clause-others
returns-in-Err-clause-others g c = states-set_other g.R.Source.left g.R.Source.is_marked c.args.logs.now c.args.k _

pub returns-in_err-flush-in-Some-clause-others : goal.returns-in_err-flush-in-Some-clause-others
returns-in_err-flush-in-Some-clause-others g c = states-set_other g.R.Source.left g.R.Source.is_marked c.args.logs.now c.args.k _

pub returns-in-None-clause-others : goal.returns-in-None-clause-others
returns-in-None-clause-others g c = states-set_other g.R.Source.left g.R.Source.is_marked c.args.logs.now c.args.k _

pub returns-in_ok-flush-in-Some-clause-others : goal.returns-in_ok-flush-in-Some-clause-others
returns-in_ok-flush-in-Some-clause-others g c = states-set_other g.R.Source.left g.R.Source.is_marked c.args.logs.now c.args.k _

pub returns-in-Err-clause-finds : goal.returns-in-Err-clause-finds
returns-in-Err-clause-finds g c = λ first before is_open.
    let instant = g.I.Instants.reading c.args.instants.now in
    let is_strict = c.args.is_strict in
    let left = g.R.Source.left in
    let marked = g.R.Source.is_marked in
    let logs = c.args.logs.now in
    let here = c.in-Err.ensures in
    rw c.fault_at.ensures (λ stands.
    find_cut instant is_strict first (log_states left marked logs) _ before (output (g.W.Sink.written c.args.writer.now) (g.W.Sink.is_marked c.args.writer.now))
    c.args.pending.now is_open stands (length logs) c.args.k (states-past left marked logs) _ _
    (states-at left marked logs c.args.k c.index-logs-k.result c.requires)
    (states-set left marked logs c.args.k _ c.requires) (states-set_other left marked logs c.args.k _) here.0 here.1.consumed (λ e. (here.1.ended e).0)
    c.in-Err.fault (output (g.W.Sink.written c.find_next.new.writer) (g.W.Sink.is_marked c.find_next.new.writer)) (ap has_line_feed (sym here.1.added)
    ∙ here.2.1) here.2.0)

pub returns-in_err-flush-in-Some-clause-finds : goal.returns-in_err-flush-in-Some-clause-finds
returns-in_err-flush-in-Some-clause-finds g c = λ first before is_open.
    let instant = g.I.Instants.reading c.args.instants.now in
    let is_strict = c.args.is_strict in
    let left = g.R.Source.left in
    let marked = g.R.Source.is_marked in
    let logs = c.args.logs.now in
    let here = c.in-Ok.ensures in
    finds_cut c.from_residual.result instant is_strict c.args.k first
    (log_states left marked logs) _ before _ _ c.args.pending.now c.flush.new.pending is_open _
    c.from_residual.ensures.1 (λ stands.
    find_stop_cut instant is_strict first (log_states left marked logs) _ before (output (g.W.Sink.written c.args.writer.now)
    (g.W.Sink.is_marked c.args.writer.now))
    c.args.pending.now is_open stands (length logs) c.args.k (states-past left marked logs) _ _
    (states-at left marked logs c.args.k c.index-logs-k.result c.requires)
    (states-set left marked logs c.args.k _ c.requires) (states-set_other left marked logs c.args.k _) here.0 here.1.consumed (λ e. (here.1.ended e).0)
    c.from_residual.result (output (g.W.Sink.written c.find_next.new.writer) (g.W.Sink.is_marked c.find_next.new.writer)) (output
    (g.W.Sink.written c.flush.new.writer) (g.W.Sink.is_marked c.flush.new.writer))
    c.find_next.new.pending c.from_residual.ensures.1 here.2.0 c.in_err-flush-in-Some.ensures.written c.in_err-flush-in-Some.ensures.mark)

pub returns-in-None-clause-finds : goal.returns-in-None-clause-finds
returns-in-None-clause-finds g c = λ first before is_open.
    let instant = g.I.Instants.reading c.args.instants.now in
    let is_strict = c.args.is_strict in
    let left = g.R.Source.left in
    let marked = g.R.Source.is_marked in
    let logs = c.args.logs.now in
    let here = c.in-Ok.ensures in (
      λ stands. find_stands instant is_strict first (log_states left marked logs) _ before (output (g.W.Sink.written c.args.writer.now)
          (g.W.Sink.is_marked c.args.writer.now))
          c.args.pending.now is_open stands (length logs) c.args.k (states-past left marked logs) _ _
          (states-at left marked logs c.args.k c.index-logs-k.result c.requires)
          (states-set left marked logs c.args.k _ c.requires) (states-set_other left marked logs c.args.k _) here.0 here.1.consumed (λ e. (here.1.ended e).0)
          (output (g.W.Sink.written c.find_next.new.writer) (g.W.Sink.is_marked c.find_next.new.writer)) c.find_next.new.pending here.2.0 here.2.1.write
          here.2.1.read here.1.added here.1.place refl
          (λ e. ((here.1.ended e).1, (here.1.ended e).2)) here.1.end,
      rw (states-set left marked logs c.args.k _ c.requires) (here.2.2, no_back_line is_strict c.find_next.new.front (sym c.back_line.ensures ∙ c.in-None.is)),
    )

pub returns-in_ok-flush-in-Some-clause-finds : goal.returns-in_ok-flush-in-Some-clause-finds
returns-in_ok-flush-in-Some-clause-finds g c = λ first before is_open stands.
    let instant = g.I.Instants.reading c.args.instants.now in
    let is_strict = c.args.is_strict in
    let left = g.R.Source.left in
    let marked = g.R.Source.is_marked in
    let logs = c.args.logs.now in
    let here = c.in-Ok.ensures in
    let back = some_back_line is_strict c.find_next.new.front c.in-Some.number (sym c.back_line.ensures ∙ c.in-Some.is) in
    find_back instant is_strict first (log_states left marked logs) _ before (output (g.W.Sink.written c.args.writer.now)
    (g.W.Sink.is_marked c.args.writer.now))
    c.args.pending.now is_open stands (length logs) c.args.k (states-past left marked logs) _ _
    (states-at left marked logs c.args.k c.index-logs-k.result c.requires)
    (states-set left marked logs c.args.k _ c.requires) (states-set_other left marked logs c.args.k _) here.0 here.1.consumed (λ e. (here.1.ended e).0)
    (output (g.W.Sink.written c.find_next.new.writer) (g.W.Sink.is_marked c.find_next.new.writer)) c.find_next.new.pending here.2.0 here.2.1.write
    here.2.1.read here.1.added here.1.place refl
    (λ e. ((here.1.ended e).1, (here.1.ended e).2)) here.1.end
    (output (g.W.Sink.written c.flush.new.writer) (g.W.Sink.is_marked c.flush.new.writer)) c.in-Some.number back.strict here.2.2 back.line back.earlier
    back.number_is
    c.in_ok-flush-in-Some.ensures.written c.in_ok-flush-in-Some.ensures.mark
