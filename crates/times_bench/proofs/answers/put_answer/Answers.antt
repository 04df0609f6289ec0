use Rattle.std.proofs.Common.{refl, ◌≡◌, [], ◌∷◌, ◌++◌, append_assoc, arith, codes, Some, None}
use Rattle.std.proofs.lemmas.Bool.Decides.{Decides-eqb}
use Rattle.std.proofs.lemmas.Result.{err_from_is_err_and}
use Rattle.std.proofs.lemmas.Slice.Eq.{strip_prefix_is}
use Rattle.times_bench.specs.Answers.{answer_to, answer_of, takes_memory}
use Rattle.times_bench.specs.Requests.{request_of}
use Rattle.times_bench.proofs.RequestLemmas.{request_of-long, request_of-front, request_of-other}
use Rattle.times_bench.proofs.answers.put_answer.Goals as goal

pub returns-in_err-put_run : goal.returns-in_err-put_run
unfolding takes_memory
returns-in_err-put_run c =
    let p = err_from_is_err_and c.from_residual.result c.from_residual.ensures.1 in
    let words = c.in-Some-strip_prefix-2.words in
    let begins =
    rw c.as_slice-in_default-strip_prefix.ensures at
    (strip_prefix_is Decides-eqb _ _ (Some words) c.in-Some-strip_prefix-2.ensures.cases) in
    rw (p.1, request_of-front c.args.line.now (codes "run " ++ words.now) (omega arith) begins) c.in_err-put_run.ensures.answer

pub returns : goal.returns
unfolding answer_of
returns c =
    let old = c.args.pending.now in
    let line = c.args.line.now in
    let answered : c.if-line-gt-LONGEST_LINE.pending ≡ old ++ answer_to (request_of line) = elim c.if-line-gt-LONGEST_LINE.branch [
      | goal.then-line-gt-LONGEST_LINE w ↦
          rw (w.pending-is, w.put_bad_line.ensures.answer, request_of-long line (omega arith)) refl
      | goal.else-line-gt-LONGEST_LINE+in-Some w ↦
          let begins = rw w.as_slice.ensures at
          (strip_prefix_is Decides-eqb _ _ (Some w.in-Some.words) w.in-Some.ensures.cases) in
          rw (w.pending-is, w.put_unix.ensures.answer, request_of-front line (codes "unix " ++ w.in-Some.words.now) (omega arith) begins) refl
      | goal.else-line-gt-LONGEST_LINE+in_default+in-Some-strip_prefix w ↦
          let words = w.in-Some-strip_prefix.words in
          let begins = rw w.as_slice-in_default.ensures at
          (strip_prefix_is Decides-eqb _ _ (Some words) w.in-Some-strip_prefix.ensures.cases) in
          rw (w.pending-is, w.put_stamp.ensures.answer, request_of-front line (codes "stamp " ++ words.now) (omega arith) begins) refl
      | goal.else-line-gt-LONGEST_LINE+in_default+in_default-strip_prefix+in-Some-strip_prefix-2+in_ok-put_run w ↦
          let words = w.in-Some-strip_prefix-2.words in
          let begins = rw w.as_slice-in_default-strip_prefix.ensures at
          (strip_prefix_is Decides-eqb _ _ (Some words) w.in-Some-strip_prefix-2.ensures.cases) in
          rw (w.pending-is, w.in_ok-put_run.ensures.answer, request_of-front line (codes "run " ++ words.now) (omega arith) begins) refl
      | goal.else-line-gt-LONGEST_LINE+in_default+in_default-strip_prefix+in_default-strip_prefix-2+in-Some-strip_prefix-3 w ↦
          let words = w.in-Some-strip_prefix-3.words in
          let begins = rw w.as_slice-in_default-strip_prefix-2.ensures at
          (strip_prefix_is Decides-eqb _ _ (Some words) w.in-Some-strip_prefix-3.ensures.cases) in
          rw (w.pending-is, w.put_chain.ensures.answer, request_of-front line (codes "chain " ++ words.now) (omega arith) begins) refl
      | goal.else-line-gt-LONGEST_LINE+in_default+in_default-strip_prefix+in_default-strip_prefix-2+in_default-strip_prefix-3 w ↦
          let no_unix = rw w.as_slice.ensures at
          (strip_prefix_is Decides-eqb line _ None w.in_default.ensures.cases) in
          let no_stamp = rw w.as_slice-in_default.ensures at
          (strip_prefix_is Decides-eqb line _ None w.in_default-strip_prefix.ensures.cases) in
          let no_run = rw w.as_slice-in_default-strip_prefix.ensures at
          (strip_prefix_is Decides-eqb line _ None w.in_default-strip_prefix-2.ensures.cases) in
          let no_chain = rw w.as_slice-in_default-strip_prefix-2.ensures at
          (strip_prefix_is Decides-eqb line _ None w.in_default-strip_prefix-3.ensures.cases) in
          rw (w.pending-is, w.put_bad_line-in_default-strip_prefix-3.ensures.answer)
          (rw (request_of-other line (omega arith) (λ rest. (no_unix rest, no_stamp rest, no_run rest, no_chain rest))) refl)
    ] in
    rw (c.push.ensures, answered) (append_assoc old (answer_to (request_of line)) (10 ∷ []))
