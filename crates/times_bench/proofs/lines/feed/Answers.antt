use Rattle.std.proofs.Common.{arith, refl, ◌≡◌, ℕ, ◌+◌, ◌<◌, List, [], ◌∷◌, ◌++◌, length, take, drop, get_or, sym, ◌∙◌}
use Rattle.std.proofs.lemmas.Result.{err_from_is_err_and}
use Rattle.std.proofs.lemmas.List.{take_all, take-append-drop}
use Rattle.line_devices.specs.FaultLemmas.{OnOk-fault, fault-not_ok}
use Rattle.line_devices.specs.LineParts.{ended_from, rest_from}
use Rattle.line_devices.specs.LineLemmas.{ended_until, rest_from-line_feed, take-line_feed}
use Rattle.times_bench.proofs.FeedLemmas.{Sends-line, AtFault-line, WritesAnswers-flushed}
use Rattle.times_bench.proofs.LineLemmas.{Holds-append}
use Rattle.line_devices.specs.WritingLemmas.{Sends-nothing}
use Rattle.times_bench.proofs.lines.feed.Goals as goal

cut_at : (block : List ℕ) (end : ℕ) → end < length block → get_or block end 0 ≡ 10 → block ≡ (take end block ++ 10 ∷ []) ++ drop (end + 1) block
cut_at block end low is =
    rw (← take-line_feed block end low is) (sym (take-append-drop (end + 1) block))

pub lines-init : goal.lines-init
unfolding ended_from rest_from
lines-init g c = record {
  within = omega arith;
  line = λ piece h. h;
  sent = λ piece h. rw c.requires (Sends-nothing (g.W.Sink.written c.args.writer.now) []);
  mark = refl;
}

pub lines-preserved-then-end-block : goal.lines-preserved-then-end-block
lines-preserved-then-end-block g c =
    let block = c.args.block.now in
    let from = c.lines.place in
    let found = c.place_of-end.ensures in
    let so_far = c.lines.invariant in
    let until = λ (piece : List ℕ). ended_until piece block from c.place_of-end.result found.bounds.0 found.bounds.1 found.before in
    record {
      within = found.bounds.1;
      line = λ piece h. rw ((until piece).1, c.push_front_of.ensures) (Holds-append (rest_from piece (take from block)) c.lines.line _ (so_far.line piece h));
      sent = λ piece h. rw (until piece).0 (so_far.sent piece h);
      mark = so_far.mark;
    }

pub returns-in_err-end_line-clause-written : goal.returns-in_err-end_line-clause-written
returns-in_err-end_line-clause-written g c = λ piece h.
    let p = err_from_is_err_and c.from_residual.result c.from_residual.ensures.1 in
    let block = c.args.block.now in
    let end = c.place_of-end.result in
    let found = c.place_of-end.ensures in
    let so_far = c.lines.invariant in
    let low : end < length block = omega (arith, found.bounds) in
    let until = ended_until piece block c.lines.place end found.bounds.0 found.bounds.1 found.before in
    let fault = rw (← until.1) at (c.in_err-end_line.ensures.sent (rest_from piece (take c.lines.place block)) (so_far.line piece h)) in
    let before = rw (← until.0) at (so_far.sent piece h) in
    rw (p.1, p.2) (AtFault-line _ _ _ _ c.lines.pending piece (take end block) _ block (cut_at block end low (found.byte_there low)) before fault)

pub lines-preserved : goal.lines-preserved
lines-preserved g c =
    let block = c.args.block.now in
    let end = c.place_of-end.result in
    let found = c.place_of-end.ensures in
    let so_far = c.lines.invariant in
    let low : end < length block = omega (arith, found.bounds) in
    let next = take-line_feed block end low (found.byte_there low) in
    record {
      within = omega arith;
      line = λ piece h. rw (next, rest_from-line_feed piece (take end block)) (c.in_ok-end_line.ensures.line refl);
      sent = λ piece h.
          let until = ended_until piece block c.lines.place end found.bounds.0 found.bounds.1 found.before in
          let sent = rw (← until.1) at (c.in_ok-end_line.ensures.sent (rest_from piece (take c.lines.place block)) (so_far.line piece h)) in
          rw next (Sends-line _ _ _ c.lines.pending _ piece (take end block) (rw until.0 (so_far.sent piece h)) sent);
      mark = c.in_ok-end_line.ensures.mark ∙ so_far.mark;
    }

pub returns-clause-written : goal.returns-clause-written
returns-clause-written g c = λ piece h.
    let sent = rw (take_all c.lines.place c.args.block.now (omega arith)) at (c.lines.invariant.sent piece h) in
    WritesAnswers-flushed _ _ _ c.lines.pending _ c.flush.result sent c.flush.ensures.written

pub returns-clause-line : goal.returns-clause-line
returns-clause-line g c = λ ok piece h.
    rw (take_all c.lines.place c.args.block.now (omega arith)) at (c.lines.invariant.line piece h)

pub returns-clause-empty : goal.returns-clause-empty
returns-clause-empty g c = c.flush.ensures.empty

pub returns-clause-mark : goal.returns-clause-mark
returns-clause-mark g c = rw c.lines.invariant.mark at c.flush.ensures.mark

pub returns-in_err-end_line-clause-line : goal.returns-in_err-end_line-clause-line
returns-in_err-end_line-clause-line g c = λ ok. absurd (fault-not_ok _ c.from_residual.result c.from_residual.ensures.1 ok)

pub returns-in_err-end_line-clause-empty : goal.returns-in_err-end_line-clause-empty
returns-in_err-end_line-clause-empty g c = OnOk-fault _ _ c.from_residual.result c.from_residual.ensures.1

pub returns-in_err-end_line-clause-mark : goal.returns-in_err-end_line-clause-mark
returns-in_err-end_line-clause-mark g c =
    let p = err_from_is_err_and c.from_residual.result c.from_residual.ensures.1 in
    rw (p.1, p.2) (rw c.lines.invariant.mark at c.in_err-end_line.ensures.mark)
