use Rattle.std.proofs.Common.{rules, sym, ◌∙◌, ◌≡◌, Some, None}
use Rattle.times_bench.specs.CallWords.{call_of_parts, call_of, read_of}
use Rattle.times_bench.proofs.CallWordLemmas.{call_of-long, call_of-read, call_of-unread, call_of_parts-more}
use Rattle.times_bench.proofs.call_words.call_of.Goals as goal

pub returns-in-Some-clause-value : goal.returns-in-Some-clause-value
returns-in-Some-clause-value c = sym (call_of-read c.args.word.now c.in-Some.call (search rules))

pub returns-in-Some-clause-three_bytes : goal.returns-in-Some-clause-three_bytes
returns-in-Some-clause-three_bytes c =
    call_of-long c.args.word.now (Some c.in-Some.call) (sym (call_of-read c.args.word.now c.in-Some.call (search rules)))

pub returns-in_err-arguments-clause-value : goal.returns-in_err-arguments-clause-value
returns-in_err-arguments-clause-value c =
    let alone : c.cut_at.result.1 ≡ None = search rules in
    let unread : read_of c.args.word.now ≡ None = search rules in
    c.from_residual.ensures ∙ sym (call_of-unread c.args.word.now c.cut_at.result.0.now (rw alone at c.cut_at.ensures) unread)

pub returns-then-is_some-clause-value : goal.returns-then-is_some-clause-value
unfolding call_of
returns-then-is_some-clause-value c =
    let more : c.cut_at.result.1 ≡ Some c.in_ok-arguments.field-0 = search rules in
    rw (c.cut_at.ensures, more, c.cut_at-2.ensures)
    (sym (call_of_parts-more c.cut_at.result.0.now c.cut_at-2.result.0.now c.cut_at-2.result.1 (search rules)))

pub returns-clause-three_bytes : goal.returns-clause-three_bytes
unfolding call_of_parts call_of
returns-clause-three_bytes c = call_of-long c.args.word.now c.call_with.result (search rules)
