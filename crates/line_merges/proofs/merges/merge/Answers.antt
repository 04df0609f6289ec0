use Rattle.std.proofs.Common.{not, false, length, ◌∙◌, sym, arith}
use Rattle.line_merges.proofs.RunLemmas.{IsNext-same, ends_cut, known_all, known_more, known_start, stands_cut, stands_end, stands_endless, stands_first}
use Rattle.line_merges.proofs.StateLemmas.{fronts-states, states-past}
use Rattle.line_merges.specs.Choices.{log_fronts}
use Rattle.line_merges.specs.Runs.{log_states, output}
use Rattle.line_merges.specs.Steps.{fronts_of}
use Rattle.line_merges.proofs.merges.merge.Goals as goal

pub firsts-init : goal.firsts-init
firsts-init g c =
    let instant = g.I.Instants.reading c.args.instants.now in
    let is_strict = c.args.is_strict in
    let left = g.R.Source.left in
    let marked = g.R.Source.is_marked in
    let states = log_states left marked in
    let first = states c.args.logs.now in
    let before = output (g.W.Sink.written c.args.writer.now) (g.W.Sink.is_marked c.args.writer.now) in
    record {
      stands = stands_first instant is_strict first before c.new-pending.result c.requires.logs c.requires.writer c.new-pending.ensures;
      known = λ j front low e. absurd (omega (arith, low));
    }

pub firsts-preserved : goal.firsts-preserved
firsts-preserved g c =
    let instant = g.I.Instants.reading c.args.instants.now in
    let is_strict = c.args.is_strict in
    let left = g.R.Source.left in
    let marked = g.R.Source.is_marked in
    let states = log_states left marked in
    let first = states c.args.logs.now in
    let before = output (g.W.Sink.written c.args.writer.now) (g.W.Sink.is_marked c.args.writer.now) in
    let so = c.firsts.invariant in
    let found = c.in_ok-find.ensures.finds first before false in
    record {
      stands = (found.0 so.stands).0;
      known = known_more instant is_strict (states c.firsts.logs) (states c.find.new.logs) c.firsts.k c.in_ok-find.ensures.others found.1 so.known;
    }

pub lines-init : goal.lines-init
lines-init g c =
    let instant = g.I.Instants.reading c.args.instants.now in
    let is_strict = c.args.is_strict in
    let left = g.R.Source.left in
    let marked = g.R.Source.is_marked in
    let states = log_states left marked in
    let first = states c.args.logs.now in
    let before = output (g.W.Sink.written c.args.writer.now) (g.W.Sink.is_marked c.args.writer.now) in
    let so = c.firsts.invariant in (
      so.stands,
      record {
        number = omega arith;
        known = known_start instant is_strict (states c.firsts.logs) (length c.firsts.logs) c.firsts.k (states-past left marked c.firsts.logs)
            (omega (arith, c.firsts.auto.logs, c.firsts-test.false)) so.known;
      },
    )

pub lines-preserved : goal.lines-preserved
lines-preserved g c =
    let instant = g.I.Instants.reading c.args.instants.now in
    let is_strict = c.args.is_strict in
    let left = g.R.Source.left in
    let marked = g.R.Source.is_marked in
    let states = log_states left marked in
    let first = states c.args.logs.now in
    let before = output (g.W.Sink.written c.args.writer.now) (g.W.Sink.is_marked c.args.writer.now) in
    let so = c.lines.invariant in
    let logs = c.lines.logs in
    let next = IsNext-same (log_fronts logs) (fronts_of (states logs)) c.in-Some.next (fronts-states left marked logs) c.in-Some.ensures.next in
    let sent = c.in_ok-is_ended.ensures.sends is_strict first before so.1.known next so.0 in
    let found = c.in_ok-find-2.ensures.finds first before (not c.in_ok-is_ended.is_ended) in
    let stands = found.0 sent.0 in (
      stands.0,
      record {
        number = omega (arith, so.1.number, sent.1, stands.1);
        known = known_all instant is_strict (states logs) (states c.find-in-lines.new.logs) c.in-Some.next
            (λ j other. c.in_ok-find-2.ensures.others j other ∙ c.in_ok-is_ended.ensures.others j other) found.1 so.1.known;
      },
    )

pub returns-in_err-find : goal.returns-in_err-find
returns-in_err-find g c =
    let instant = g.I.Instants.reading c.args.instants.now in
    let is_strict = c.args.is_strict in
    let left = g.R.Source.left in
    let marked = g.R.Source.is_marked in
    let states = log_states left marked in
    let first = states c.args.logs.now in
    let before = output (g.W.Sink.written c.args.writer.now) (g.W.Sink.is_marked c.args.writer.now) in
    ends_cut c.from_residual.result _ instant is_strict first _ before _ c.from_residual.ensures.1
    (c.in_err-find.ensures.finds first before false c.firsts.invariant.stands)

pub returns-in_err-flush : goal.returns-in_err-flush
returns-in_err-flush g c =
    let instant = g.I.Instants.reading c.args.instants.now in
    let is_strict = c.args.is_strict in
    let left = g.R.Source.left in
    let marked = g.R.Source.is_marked in
    let states = log_states left marked in
    let first = states c.args.logs.now in
    let before = output (g.W.Sink.written c.args.writer.now) (g.W.Sink.is_marked c.args.writer.now) in
    let so = c.lines.invariant in
    stands_cut instant is_strict first (states c.lines.logs) before _ c.lines.pending c.lines.is_open so.0 (length c.lines.logs)
    (states-past left marked c.lines.logs)
    c.from_residual-in_err-flush.result (output (g.W.Sink.written c.flush.new.writer)
    (g.W.Sink.is_marked c.flush.new.writer)) c.from_residual-in_err-flush.ensures.1 c.in_err-flush.ensures.written c.in_err-flush.ensures.mark

pub returns-in_default : goal.returns-in_default
returns-in_default g c =
    let instant = g.I.Instants.reading c.args.instants.now in
    let is_strict = c.args.is_strict in
    let left = g.R.Source.left in
    let marked = g.R.Source.is_marked in
    let states = log_states left marked in
    let first = states c.args.logs.now in
    let before = output (g.W.Sink.written c.args.writer.now) (g.W.Sink.is_marked c.args.writer.now) in
    let so = c.lines.invariant in
    let logs = c.lines.logs in
    stands_end instant is_strict first (states logs) before _ c.lines.pending c.lines.is_open so.0 so.1.known
    (λ j front e. c.in_default.ensures.ended j front (sym (fronts-states left marked logs j) ∙ e))
    (output (g.W.Sink.written c.flush.new.writer) (g.W.Sink.is_marked c.flush.new.writer)) c.in_ok-flush.ensures.written c.in_ok-flush.ensures.mark

pub returns-in_err-is_ended : goal.returns-in_err-is_ended
returns-in_err-is_ended g c =
    let instant = g.I.Instants.reading c.args.instants.now in
    let is_strict = c.args.is_strict in
    let left = g.R.Source.left in
    let marked = g.R.Source.is_marked in
    let states = log_states left marked in
    let first = states c.args.logs.now in
    let before = output (g.W.Sink.written c.args.writer.now) (g.W.Sink.is_marked c.args.writer.now) in
    let so = c.lines.invariant in
    let logs = c.lines.logs in
    let next = IsNext-same (log_fronts logs) (fronts_of (states logs)) c.in-Some.next (fronts-states left marked logs) c.in-Some.ensures.next in
    ends_cut c.from_residual-in_err-is_ended.result _ instant is_strict first _ before _ c.from_residual-in_err-is_ended.ensures.1
    (c.in_err-is_ended.ensures.sends is_strict first before so.1.known next so.0)

pub returns-in_err-find-2 : goal.returns-in_err-find-2
returns-in_err-find-2 g c =
    let instant = g.I.Instants.reading c.args.instants.now in
    let is_strict = c.args.is_strict in
    let left = g.R.Source.left in
    let marked = g.R.Source.is_marked in
    let states = log_states left marked in
    let first = states c.args.logs.now in
    let before = output (g.W.Sink.written c.args.writer.now) (g.W.Sink.is_marked c.args.writer.now) in
    let so = c.lines.invariant in
    let logs = c.lines.logs in
    let next = IsNext-same (log_fronts logs) (fronts_of (states logs)) c.in-Some.next (fronts-states left marked logs) c.in-Some.ensures.next in
    let sent = c.in_ok-is_ended.ensures.sends is_strict first before so.1.known next so.0 in
    ends_cut c.from_residual-in_err-find-2.result _ instant is_strict first _ before _ c.from_residual-in_err-find-2.ensures.1
    (c.in_err-find-2.ensures.finds first before (not c.in_ok-is_ended.is_ended) sent.0)

pub returns-in_err-flush-2 : goal.returns-in_err-flush-2
returns-in_err-flush-2 g c =
    let instant = g.I.Instants.reading c.args.instants.now in
    let is_strict = c.args.is_strict in
    let left = g.R.Source.left in
    let marked = g.R.Source.is_marked in
    let states = log_states left marked in
    let first = states c.args.logs.now in
    let before = output (g.W.Sink.written c.args.writer.now) (g.W.Sink.is_marked c.args.writer.now) in
    let so = c.lines.invariant in
    stands_cut instant is_strict first (states c.lines.logs) before _ c.lines.pending c.lines.is_open so.0 (length c.lines.logs)
    (states-past left marked c.lines.logs)
    c.from_residual-in_err-flush-2.result (output (g.W.Sink.written c.flush-2.new.writer)
    (g.W.Sink.is_marked c.flush-2.new.writer)) c.from_residual-in_err-flush-2.ensures.1 c.in_err-flush-2.ensures.written c.in_err-flush-2.ensures.mark

pub returns : goal.returns
returns g c =
    let instant = g.I.Instants.reading c.args.instants.now in
    let is_strict = c.args.is_strict in
    let left = g.R.Source.left in
    let marked = g.R.Source.is_marked in
    let states = log_states left marked in
    let first = states c.args.logs.now in
    let before = output (g.W.Sink.written c.args.writer.now) (g.W.Sink.is_marked c.args.writer.now) in
    let so = c.lines.invariant in
    stands_endless instant is_strict first (states c.lines.logs) before _ c.lines.pending c.lines.is_open so.0 (length c.lines.logs)
    (states-past left marked c.lines.logs)
    (output (g.W.Sink.written c.flush-2.new.writer) (g.W.Sink.is_marked c.flush-2.new.writer)) c.in_ok-flush-2.ensures.written (omega
    (arith, so.1.number, c.lines-test.false))
