use Rattle.std.proofs.Common.{rules, refl, append_assoc, w64}
use Rattle.std.proofs.lemmas.Int.{to_z-of_z}
use Rattle.times_bench.specs.Answers.{stamp_answer}
use Rattle.times_bench.proofs.answers.put_stamp.Goals as goal

pub returns-in-Ok-clause-answer : goal.returns-in-Ok-clause-answer
unfolding stamp_answer
returns-in-Ok-clause-answer c =
    let known = rw (to_z-of_z w64 c.in-Some.second (search rules)) at c.instant_at.ensures in
    rw (c.put_text-in-Ok.ensures.text, c.put_text.ensures.text, c.instant_text.ensures, c.day_text_of.ensures, ← c.in-Some.ensures, ← known, c.in-Ok.is)
    (simp append_assoc refl)

pub returns-in-Err-clause-answer : goal.returns-in-Err-clause-answer
unfolding stamp_answer
returns-in-Err-clause-answer c =
    let known = rw (to_z-of_z w64 c.in-Some.second (search rules)) at c.instant_at.ensures in
    rw (c.put_text-in-Err.ensures.text, c.refused_text.ensures.text, ← c.in-Some.ensures, ← known, c.in-Err.is) refl
