use Rattle.std.proofs.Common.{rules, refl, ◌≡◌, ◌∙◌, sym, ap, true, false}
use Rattle.std.specs.Option.{option_map}
use Rattle.std.specs.Prelude.{codes}
use Rattle.std.specs.Str.{bytes_eq}
use Rattle.stamp_times.specs.declared.chains.steps.Step.TheVariants.{ToOffset}
use Rattle.times_bench.proofs.StepWordLemmas.{parse_offset-length}
use Rattle.times_bench.specs.StepWords.{step_of}
use Rattle.times_bench.proofs.step_words.step_of.Goals as goal

pub returns-in_err-parse_offset-clause-value : goal.returns-in_err-parse_offset-clause-value
unfolding step_of
returns-in_err-parse_offset-clause-value c =
    let stamp : bytes_eq c.args.word.now (codes "stamp") ≡ false = search rules in
    let utc : bytes_eq c.args.word.now (codes "utc") ≡ false = search rules in
    rw (stamp, utc) (c.from_residual.ensures ∙ ap (option_map ToOffset) c.in_err-parse_offset.ensures)

pub returns-then-is-clause-value : goal.returns-then-is-clause-value
unfolding step_of
returns-then-is-clause-value c = let stamp : bytes_eq c.args.word.now (codes "stamp") ≡ true = search rules in rw stamp refl

pub returns-then-is-2-clause-value : goal.returns-then-is-2-clause-value
unfolding step_of
returns-then-is-2-clause-value c =
    let stamp : bytes_eq c.args.word.now (codes "stamp") ≡ false = search rules in
    let utc : bytes_eq c.args.word.now (codes "utc") ≡ true = search rules in
    rw (stamp, utc) refl

pub returns-clause-value : goal.returns-clause-value
unfolding step_of
returns-clause-value c =
    let stamp : bytes_eq c.args.word.now (codes "stamp") ≡ false = search rules in
    let utc : bytes_eq c.args.word.now (codes "utc") ≡ false = search rules in
    rw (stamp, utc) (ap (option_map ToOffset) c.in_ok-parse_offset.ensures)

pub returns-clause-three_bytes : goal.returns-clause-three_bytes
returns-clause-three_bytes c = parse_offset-length c.args.word.now c.in_ok-parse_offset.field-0 (sym c.in_ok-parse_offset.ensures)
