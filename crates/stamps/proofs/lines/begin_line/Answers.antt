use Rattle.std.proofs.Common.{sym, ◌∙◌, refl, Ok}
use Rattle.stamps.specs.Decisions.{decision_of, state_after}
use Rattle.stamps.proofs.LongLineLemmas.{decision_of-read, kept_within}
use Rattle.stamps.proofs.PartLemmas.{begins_kept}
use Rattle.stamps.proofs.lines.begin_line.Goals as goal

pub returns-in-Some-text_in-clause-begins : goal.returns-in-Some-text_in-clause-begins
returns-in-Some-text_in-clause-begins g c =
    let task = c.args.task.now in
    let state = c.args.state.now in
    let line = c.args.line.now in
    let after = state_after task state line in
    let stamp = c.in-Ok.stamp in
    let text = c.in-Some-text_in.text in
    let read = decision_of-read task state after line (Ok stamp) (sym c.in-Ok.is ∙ c.read_stamp-stamp.ensures.stamp) refl in
    let keep = c.in-Some.ensures state.last state.latest after text (sym c.text_in.ensures.text ∙ c.in-Some-text_in.is) in
    let kept = rw c.as_bytes.ensures.value at c.keep_text.ensures.kept in
    begins_kept c.keep_text.result (decision_of task state line) _ _ _ c.args.pending.now _ line text stamp.start stamp.length (sym keep ∙ read) kept

pub keep_text-requires : goal.keep_text-requires
keep_text-requires g c =
    let task = c.args.task.now in
    let state = c.args.state.now in
    let line = c.args.line.now in
    let after = state_after task state line in
    let stamp = c.in-Ok.stamp in
    let text = c.in-Some-text_in.text in
    let read = decision_of-read task state after line (Ok stamp) (sym c.in-Ok.is ∙ c.read_stamp-stamp.ensures.stamp) refl in
    let keep = c.in-Some.ensures state.last state.latest after text (sym c.text_in.ensures.text ∙ c.in-Some-text_in.is) in
    kept_within task state line text stamp.start stamp.length (sym keep ∙ read)

pub carry_out-requires : goal.carry_out-requires
carry_out-requires g c start count text e =
    let task = c.args.task.now in
    let state = c.args.state.now in
    let line = c.args.line.now in
    let read = decision_of-read task state _ line _ c.read_stamp-stamp.ensures.stamp c.read_stamp-stamp.ensures.state in
    kept_within task state line text start count (e ∙ c.decision_by-decision.ensures ∙ read)

pub returns-clause-begins : goal.returns-clause-begins
returns-clause-begins g c =
    let task = c.args.task.now in
    let state = c.args.state.now in
    let line = c.args.line.now in
    let read = decision_of-read task state _ line _ c.read_stamp-stamp.ensures.stamp c.read_stamp-stamp.ensures.state in
    rw (c.decision_by-decision.ensures ∙ read) at c.carry_out.ensures.begins c.read_stamp-stamp.new.state
