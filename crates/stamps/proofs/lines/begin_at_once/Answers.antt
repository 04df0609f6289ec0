use Rattle.std.proofs.Common.{sym, ◌∙◌, refl, Ok}
use Rattle.stamps.specs.Decisions.{decision_of, stamp_after, state_after}
use Rattle.stamps.proofs.LongLineLemmas.{decision_of-read, kept_within}
use Rattle.stamps.proofs.PartLemmas.{begins_kept, begins_skipped}
use Rattle.stamps.proofs.StampedLemmas.{state_after-stamped}
use Rattle.stamps.proofs.lines.begin_at_once.Goals as goal

pub keep_text-requires : goal.keep_text-requires
keep_text-requires g c =
    let task = c.args.task.now in
    let state = c.args.state.now in
    let line = c.args.line.now in
    let after = state_after task state line in
    let stamp = c.in-Some.stamp in
    let text = c.in-Some-text_in.text in
    let is_read = sym {a = stamp_after task state line} (rw c.reader-reader.ensures at c.in-Some.ensures.stamp state.last) in
    let keep = c.in-Some-style_of.ensures state.last state.latest after text (sym c.text_in.ensures.text ∙ c.in-Some-text_in.is) in
    kept_within task state line text stamp.start stamp.length (sym keep ∙ decision_of-read task state after line (Ok stamp) is_read refl)

pub returns-in-Some-text_in-clause-state : goal.returns-in-Some-text_in-clause-state
returns-in-Some-text_in-clause-state g c =
    let task = c.args.task.now in
    let state = c.args.state.now in
    let line = c.args.line.now in
    let stamp = c.in-Some.stamp in
    let is_read = sym {a = stamp_after task state line} (rw c.reader-reader.ensures at c.in-Some.ensures.stamp state.last) in
    c.take_stamp.ensures line ∙ state_after-stamped task state line stamp is_read

pub returns-in-Some-text_in-clause-begins : goal.returns-in-Some-text_in-clause-begins
returns-in-Some-text_in-clause-begins g c =
    let task = c.args.task.now in
    let state = c.args.state.now in
    let line = c.args.line.now in
    let after = state_after task state line in
    let stamp = c.in-Some.stamp in
    let text = c.in-Some-text_in.text in
    let is_read = sym {a = stamp_after task state line} (rw c.reader-reader.ensures at c.in-Some.ensures.stamp state.last) in
    let keep = c.in-Some-style_of.ensures state.last state.latest after text (sym c.text_in.ensures.text ∙ c.in-Some-text_in.is) in
    let kept = rw c.as_bytes.ensures.value at c.keep_text.ensures.kept in
    begins_kept c.keep_text.result (decision_of task state line) _ _ _ c.args.pending.now _ line text stamp.start stamp.length
    (sym keep ∙ decision_of-read task state after line (Ok stamp) is_read refl) kept

pub returns-then-is_in_order-clause-state : goal.returns-then-is_in_order-clause-state
returns-then-is_in_order-clause-state g c =
    let task = c.args.task.now in
    let state = c.args.state.now in
    let line = c.args.line.now in
    let stamp = c.in-Some.stamp in
    let is_read = sym {a = stamp_after task state line} (rw c.reader-reader.ensures at c.in-Some.ensures.stamp state.last) in
    c.take_stamp-then-is_in_order.ensures line ∙ state_after-stamped task state line stamp is_read

pub returns-then-is_in_order-clause-begins : goal.returns-then-is_in_order-clause-begins
returns-then-is_in_order-clause-begins g c =
    let task = c.args.task.now in
    let state = c.args.state.now in
    let line = c.args.line.now in
    let after = state_after task state line in
    let stamp = c.in-Some.stamp in
    let is_read = sym {a = stamp_after task state line} (rw c.reader-reader.ensures at c.in-Some.ensures.stamp state.last) in
    let skip = c.if-is_in_order.ensures.skipped refl state.latest after in
    begins_skipped (decision_of task state line) _ _ c.args.pending.now line (sym skip ∙ decision_of-read task state after line (Ok stamp) is_read refl)
