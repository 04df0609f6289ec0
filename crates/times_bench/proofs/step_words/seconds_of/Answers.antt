use Rattle.std.proofs.Common.{rules, arith, ◌≡◌, ◌≢◌, ◌∙◌, ◌+◌, ◌*◌, sym, ap, get_or, true, false, Some, w32, to_z, pos}
use Rattle.std.specs.Option.{is_some}
use Rattle.calendar_values.specs.SignedArith.{signed_casts}
use Rattle.times_bench.proofs.StepWordLemmas.{no_seconds, no_seconds-other, seconds_of_words-read}
use Rattle.times_bench.proofs.step_words.seconds_of.Goals as goal

pub returns-in_default-clause-value : goal.returns-in_default-clause-value
returns-in_default-clause-value c = sym (no_seconds-other c.args.text.now (λ e p q. omega (arith, e, c.in_default.len_below)))

pub returns-in_default-2-clause-value : goal.returns-in_default-2-clause-value
returns-in_default-2-clause-value c = sym (no_seconds-other c.args.text.now (λ e p q. omega (arith, e, c.in_default.len_at_least)))

pub returns-then-third-ne58-clause-value : goal.returns-then-third-ne58-clause-value
returns-then-third-ne58-clause-value c =
    let text = c.args.text.now in
    let other : get_or text 2 0 ≢ 58 = search rules in
    sym (no_seconds-other text (λ e p q. other p))

pub returns-then-sixth-ne58-clause-value : goal.returns-then-sixth-ne58-clause-value
returns-then-sixth-ne58-clause-value c =
    let text = c.args.text.now in
    let other : get_or text 5 0 ≢ 58 = search rules in
    sym (no_seconds-other text (λ e p q. other q))

pub returns-in_err-hours-clause-value : goal.returns-in_err-hours-clause-value
returns-in_err-hours-clause-value c =
    c.from_residual.ensures
    ∙ sym (no_seconds c.args.text.now (λ reads. let is : false ≡ true = ap is_some c.in_err-hours.ensures.value ∙ reads.1 in absurd cc))

pub returns-in_err-minutes-clause-value : goal.returns-in_err-minutes-clause-value
returns-in_err-minutes-clause-value c =
    c.from_residual-in_err-minutes.ensures
    ∙ sym (no_seconds c.args.text.now (λ reads. let is : false ≡ true = ap is_some c.in_err-minutes.ensures.value ∙ reads.2 in absurd cc))

pub returns-in_err-seconds-clause-value : goal.returns-in_err-seconds-clause-value
returns-in_err-seconds-clause-value c =
    c.from_residual-in_err-seconds.ensures
    ∙ sym (no_seconds c.args.text.now (λ reads. let is : false ≡ true = ap is_some c.in_err-seconds.ensures.value ∙ reads.3 in absurd cc))

pub returns-clause-value : goal.returns-clause-value
returns-clause-value c =
    let text = c.args.text.now in
    let hours = c.in_ok-hours.hours in
    let minutes = c.in_ok-minutes.minutes in
    let seconds = c.in_ok-seconds.seconds in
    let third : get_or text 2 0 ≡ 58 = search rules in
    let sixth : get_or text 5 0 ≡ 58 = search rules in
    let whole : to_z w32 (hours * 3_600 + minutes * 60 + seconds) ≡ pos (hours * 3_600 + minutes * 60 + seconds) =
    omega (arith, signed_casts, c.in_ok-hours.ensures.in_range, c.in_ok-minutes.ensures.in_range, c.in_ok-seconds.ensures.in_range) in
    ap Some whole
    ∙ seconds_of_words-read text hours minutes seconds (omega arith) third sixth c.in_ok-hours.ensures.value c.in_ok-minutes.ensures.value
    c.in_ok-seconds.ensures.value
