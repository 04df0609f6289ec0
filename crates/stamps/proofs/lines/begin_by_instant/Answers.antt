use Rattle.std.proofs.Common.{sym, ◌∙◌, Ok}
use Rattle.stamps.specs.Decisions.{stamp_after}
use Rattle.stamps.proofs.LongLineLemmas.{decision_of-read, kept_within}
use Rattle.stamps.proofs.StampedLemmas.{state_after-stamped}
use Rattle.stamps.proofs.lines.begin_by_instant.Goals as goal

pub carry_out-requires : goal.carry_out-requires
carry_out-requires g c start count text e =
    let task = c.args.task.now in
    let state = c.args.state.now in
    let line = c.args.line.now in
    let stamp = c.in-Some.stamp in
    let is_read = sym {a = stamp_after task state line} (rw c.reader-reader.ensures at c.in-Some.ensures.stamp state.last) in
    let after = c.take_stamp.ensures line ∙ state_after-stamped task state line stamp is_read in
    let read = decision_of-read task state c.take_stamp.new.state line (Ok stamp) is_read after in
    kept_within task state line text start count (e ∙ c.decision_by-decision.ensures ∙ read)

pub returns-in-Some-going_of-clause-state : goal.returns-in-Some-going_of-clause-state
returns-in-Some-going_of-clause-state g c =
    let task = c.args.task.now in
    let state = c.args.state.now in
    let line = c.args.line.now in
    let stamp = c.in-Some.stamp in
    let is_read = sym {a = stamp_after task state line} (rw c.reader-reader.ensures at c.in-Some.ensures.stamp state.last) in
    c.take_stamp.ensures line ∙ state_after-stamped task state line stamp is_read

pub returns-in-Some-going_of-clause-begins : goal.returns-in-Some-going_of-clause-begins
returns-in-Some-going_of-clause-begins g c =
    let task = c.args.task.now in
    let state = c.args.state.now in
    let line = c.args.line.now in
    let stamp = c.in-Some.stamp in
    let is_read = sym {a = stamp_after task state line} (rw c.reader-reader.ensures at c.in-Some.ensures.stamp state.last) in
    let after = c.take_stamp.ensures line ∙ state_after-stamped task state line stamp is_read in
    let read = decision_of-read task state c.take_stamp.new.state line (Ok stamp) is_read after in
    rw (sym (c.in-Some-going_of.ensures state.last) ∙ read) at c.begin_whole.ensures.begins c.take_stamp.new.state

pub returns-clause-state : goal.returns-clause-state
returns-clause-state g c =
    let task = c.args.task.now in
    let state = c.args.state.now in
    let line = c.args.line.now in
    let stamp = c.in-Some.stamp in
    let is_read = sym {a = stamp_after task state line} (rw c.reader-reader.ensures at c.in-Some.ensures.stamp state.last) in
    c.take_stamp.ensures line ∙ state_after-stamped task state line stamp is_read

pub returns-clause-begins : goal.returns-clause-begins
returns-clause-begins g c =
    let task = c.args.task.now in
    let state = c.args.state.now in
    let line = c.args.line.now in
    let stamp = c.in-Some.stamp in
    let is_read = sym {a = stamp_after task state line} (rw c.reader-reader.ensures at c.in-Some.ensures.stamp state.last) in
    let after = c.take_stamp.ensures line ∙ state_after-stamped task state line stamp is_read in
    let read = decision_of-read task state c.take_stamp.new.state line (Ok stamp) is_read after in
    rw (c.decision_by-decision.ensures ∙ read) at c.carry_out.ensures.begins c.take_stamp.new.state
