use Rattle.std.specs.Int.{w64}
use Rattle.std.proofs.Common.{◌≡◌, ℤ, Bool, true, false, cond, Result, Ok, Err, ◌++◌, refl, sym, ap, ◌∙◌, rules}
use Rattle.std.specs.Prelude.{is_ok}
use Rattle.std.proofs.lemmas.Bool.{true≢false}
use Rattle.std.proofs.lemmas.Int.{to_z-of_z}
use Rattle.calendar_values.specs.Refusals.{Refusal}
use Rattle.utc_times.specs.Texts.{utc_text}
use Rattle.utc_times.specs.UnixTime.{instant_or_refusal}
use Rattle.times_bench.specs.Answers.{text_or_refusal, unix_answer}
use Rattle.times_bench.proofs.answers.put_unix.Goals as goal

-- what is accepted and what is refused does not hang on the refusal
accepted : (is_out : Bool) (i x : ℤ) (r s : Refusal) → cond {A = Result ℤ Refusal} is_out (Err r) (Ok i) ≡ Ok x
    → cond {A = Result ℤ Refusal} is_out (Err s) (Ok i) ≡ Ok x
accepted true i x r s e = absurd (true≢false (ap is_ok (sym e)))
accepted false i x r s e = e

refused : (is_out : Bool) (i : ℤ) (r s t : Refusal) → cond {A = Result ℤ Refusal} is_out (Err r) (Ok i) ≡ Err t
    → cond {A = Result ℤ Refusal} is_out (Err s) (Ok i) ≡ Err s
refused true i r s t e = refl
refused false i r s t e = absurd (true≢false (ap is_ok e))

pub returns-in-Ok-clause-answer : goal.returns-in-Ok-clause-answer
unfolding unix_answer instant_or_refusal
returns-in-Ok-clause-answer c =
    let known = rw (to_z-of_z w64 c.in-Some.second (search rules)) at c.from_seconds.ensures.equation in
    rw (c.put_text.ensures.text, c.append_to.ensures.text, c.new-text.ensures, c.to_utc.ensures, ← c.in-Some.ensures)
    (sym (ap (λ (r : Result ℤ Refusal). c.args.pending.now ++ text_or_refusal utc_text r) (accepted _ _ _ _ _ (sym known ∙ c.in-Ok.is))))

pub returns-in-Err-clause-answer : goal.returns-in-Err-clause-answer
unfolding unix_answer instant_or_refusal
returns-in-Err-clause-answer c =
    let known = rw (to_z-of_z w64 c.in-Some.second (search rules)) at c.from_seconds.ensures.equation in
    rw (c.push_all.ensures, ← c.in-Some.ensures)
    (sym (ap (λ (r : Result ℤ Refusal). c.args.pending.now ++ text_or_refusal utc_text r) (refused _ _ _ _ _ (sym known ∙ c.in-Err.is))))
