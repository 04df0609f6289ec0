use Rattle.std.proofs.Common.{[], length, refl}
use Rattle.line_devices.specs.InputLemmas.{Consumes-nil}
use Rattle.line_merges.proofs.RunLemmas.{sends_cut}
use Rattle.line_merges.proofs.StepLemmas.{feed_cut, pass_cut, pass_stands}
use Rattle.line_merges.proofs.StateLemmas.{states-at, states-past, states-some, states-set, states-set_other}
use Rattle.line_merges.specs.Runs.{log_states, output}
use Rattle.line_merges.proofs.merges.pass.Goals as goal

pub returns-in-Ok-clause-others : goal.returns-in-Ok-clause-others
returns-in-Ok-clause-others g c = states-set_other g.R.Source.left g.R.Source.is_marked c.args.logs.now c.args.k _

pub returns-in-Err-clause-others : goal.returns-in-Err-clause-others
returns-in-Err-clause-others g c = states-set_other g.R.Source.left g.R.Source.is_marked c.args.logs.now c.args.k _

pub returns-in-Ok-clause-sends : goal.returns-in-Ok-clause-sends
returns-in-Ok-clause-sends g c = λ is_strict first before known next stands.
    let instant = g.I.Instants.reading c.args.instants.now in
    let left = g.R.Source.left in
    let marked = g.R.Source.is_marked in
    let logs = c.args.logs.now in
    let here = rw c.remember.ensures.same at c.in-Ok.ensures in
    pass_stands instant is_strict first (log_states left marked logs) _ before (output (g.W.Sink.written c.args.writer.now)
    (g.W.Sink.is_marked c.args.writer.now))
    c.args.pending.now c.args.is_open stands (length logs) c.args.k (states-past left marked logs) _ _
    (states-at left marked logs c.args.k c.index-logs-k.result c.requires)
    (states-set left marked logs c.args.k _ c.requires) (states-set_other left marked logs c.args.k _) here.0 here.1 here.2 known next
    (output (g.W.Sink.written c.send_feed.new.writer) (g.W.Sink.is_marked c.send_feed.new.writer)) c.send_feed.new.pending c.in_ok-send_feed.ensures.sent
    c.in_ok-send_feed.ensures.mark c.remember.ensures.memory
    (output (g.W.Sink.written c.pass_line.new.writer) (g.W.Sink.is_marked c.pass_line.new.writer)) c.pass_line.new.pending
    c.in-Ok.is_ended here.3

pub returns-in-Err-clause-sends : goal.returns-in-Err-clause-sends
returns-in-Err-clause-sends g c = λ is_strict first before known next.
    let instant = g.I.Instants.reading c.args.instants.now in
    let left = g.R.Source.left in
    let marked = g.R.Source.is_marked in
    let logs = c.args.logs.now in
    let here = rw c.remember.ensures.same at c.in-Err.ensures in
    rw c.fault_at.ensures (λ stands.
    pass_cut instant is_strict first (log_states left marked logs) _ before (output (g.W.Sink.written c.args.writer.now) (g.W.Sink.is_marked c.args.writer.now))
    c.args.pending.now c.args.is_open stands (length logs) c.args.k (states-past left marked logs) _ _
    (states-at left marked logs c.args.k c.index-logs-k.result c.requires)
    (states-set left marked logs c.args.k _ c.requires) (states-set_other left marked logs c.args.k _) here.0 here.1 here.2 known next
    (output (g.W.Sink.written c.send_feed.new.writer) (g.W.Sink.is_marked c.send_feed.new.writer)) c.send_feed.new.pending c.in_ok-send_feed.ensures.sent
    c.in_ok-send_feed.ensures.mark c.in-Err.fault (output (g.W.Sink.written c.pass_line.new.writer)
    (g.W.Sink.is_marked c.pass_line.new.writer)) here.3.0 here.3.1)

pub returns-in_err-send_feed-clause-sends : goal.returns-in_err-send_feed-clause-sends
returns-in_err-send_feed-clause-sends g c = λ is_strict first before known next.
    let instant = g.I.Instants.reading c.args.instants.now in
    let left = g.R.Source.left in
    let marked = g.R.Source.is_marked in
    let logs = c.args.logs.now in
    let here = states-some left marked logs c.args.k c.requires in
    sends_cut c.from_residual.result instant is_strict c.args.k first (log_states left marked logs) (log_states left marked logs) before _ _ c.args.pending.now
    c.send_feed.new.pending c.args.is_open _ c.from_residual.ensures.1 (λ stands.
    feed_cut instant is_strict first (log_states left marked logs) (log_states left marked logs) before
    (output (g.W.Sink.written c.args.writer.now) (g.W.Sink.is_marked c.args.writer.now)) c.args.pending.now c.args.is_open stands (length logs) c.args.k
    (states-past left marked logs) here.0 here.0 here.1 here.1 (λ j other. refl) [] (Consumes-nil _) (λ _. refl) known next c.from_residual.result
    (output (g.W.Sink.written c.send_feed.new.writer) (g.W.Sink.is_marked c.send_feed.new.writer)) c.from_residual.ensures.1 c.in_err-send_feed.ensures.sent
    c.in_err-send_feed.ensures.mark)
