use Rattle.std.proofs.Common.{rules, refl, append_assoc, w64}
use Rattle.std.proofs.lemmas.Int.{to_z-of_z}
use Rattle.std.proofs.lemmas.Result.{err_from_is_err_and}
use Rattle.times_bench.specs.Answers.{run_text, run_answer}
use Rattle.times_bench.proofs.AnswerLemmas.{replies_fit, end_fits, answer_fits}
use Rattle.times_bench.proofs.answers.put_run.Goals as goal

pub returns-in_ok-replies-in-Ok-clause-answer : goal.returns-in_ok-replies-in-Ok-clause-answer
unfolding run_answer run_text
returns-in_ok-replies-in-Ok-clause-answer c =
    let known = rw (to_z-of_z w64 c.in-Some.second (search rules)) at c.new.ensures.equation in
    let ran = c.in_ok-replies-in-Ok.ensures in
    rw (c.put_text.ensures.text, c.push_all.ensures, c.end_text.ensures, c.from.ensures, c.as_slice.ensures.value, ran.replies, ran.last)
    (rw (c.to_utc.ensures, c.items.ensures.value, ← c.in-Some.ensures, ← known, c.in-Ok.is) (simp append_assoc refl))

pub returns-in-Err-clause-answer : goal.returns-in-Err-clause-answer
unfolding run_answer
returns-in-Err-clause-answer c =
    let known = rw (to_z-of_z w64 c.in-Some.second (search rules)) at c.new.ensures.equation in
    rw (c.put_text-in-Err.ensures.text, c.refused_text.ensures.text, ← c.in-Some.ensures, ← known, c.in-Err.is) refl

pub returns-in_err-replies-in-Ok-clause-answer : goal.returns-in_err-replies-in-Ok-clause-answer
returns-in_err-replies-in-Ok-clause-answer c =
    let p = err_from_is_err_and c.from_residual.result c.from_residual.ensures.1 in
    let known = rw (to_z-of_z w64 c.in-Some.second (search rules)) at c.new.ensures.equation in
    rw (p.1, ← c.in-Some.ensures, ← known, c.in-Ok.is) (refl, refl)

pub push_all-requires : goal.push_all-requires
push_all-requires c =
    let replies = c.in_ok-replies-in-Ok.replies in (
      search rules,
      rw c.as_slice.ensures.value (replies_fit c.args.pending.now replies.items _ c.requires.room c.in_ok-replies-in-Ok.ensures.length replies.ok.0),
    )

pub put_text-requires : goal.put_text-requires
put_text-requires c =
    let replies = c.in_ok-replies-in-Ok.replies in
    rw (c.push_all.ensures, c.as_slice.ensures.value)
    (end_fits c.args.pending.now replies.items _ c.requires.room c.in_ok-replies-in-Ok.ensures.length replies.ok.0)

pub returns-in_ok-replies-in-Ok-clause-room : goal.returns-in_ok-replies-in-Ok-clause-room
returns-in_ok-replies-in-Ok-clause-room c =
    let replies = c.in_ok-replies-in-Ok.replies in
    let most = rw (c.push_all.ensures, c.as_slice.ensures.value) at c.put_text.ensures.length in
    answer_fits c.args.pending.now replies.items _ _ c.requires.room c.in_ok-replies-in-Ok.ensures.length replies.ok.0 most
