use Rattle.std.proofs.Common.{rules, arith, ◌≡◌, ◌≢◌, ◌∙◌, ap, neg_ℤ, pos, ◌-ℤ◌, w32, to_z, of_z}
use Rattle.std.specs.Option.{option_map}
use Rattle.calendar_values.specs.SignedArith.{signed_casts}
use Rattle.std.proofs.lemmas.Bool.Decides.{nat_tests}
use Rattle.std.proofs.lemmas.List.{nil_from_length}
use Rattle.times_bench.specs.StepWords.{parse_offset}
use Rattle.times_bench.proofs.StepWordLemmas.{offset_made}
use Rattle.times_bench.proofs.step_words.parse_offset.Goals as goal

pub returns-in_err-sign : goal.returns-in_err-sign
unfolding parse_offset
returns-in_err-sign c = rw (nil_from_length c.args.word.now c.in_err-sign.ensures.cases) c.from_residual.ensures

pub returns-in_err-seconds_of-in-43 : goal.returns-in_err-seconds_of-in-43
unfolding parse_offset
returns-in_err-seconds_of-in-43 c =
    rw (c.in_ok-sign.ensures.cases.0, c.in-43.is) (c.from_residual-in_err-seconds_of-in-43.ensures ∙ c.in_err-seconds_of-in-43.ensures.value)

pub returns-in_err-seconds_of-in-45 : goal.returns-in_err-seconds_of-in-45
unfolding parse_offset
returns-in_err-seconds_of-in-45 c =
    rw (c.in_ok-sign.ensures.cases.0, c.in-45.is)
    (c.from_residual-in_err-seconds_of-in-45.ensures ∙ ap (option_map neg_ℤ) c.in_err-seconds_of-in-45.ensures.value)

pub returns-in_ok-seconds_of-in-43 : goal.returns-in_ok-seconds_of-in-43
unfolding parse_offset
returns-in_ok-seconds_of-in-43 c =
    let seconds = c.in_ok-seconds_of-in-43.field-0 in
    let range = c.in_ok-seconds_of-in-43.ensures.in_range in
    let same : to_z w32 (of_z w32 seconds) ≡ seconds = omega (arith, signed_casts) in
    rw (c.in_ok-sign.ensures.cases.0, c.in-43.is) (c.ok.ensures.value
    ∙ offset_made c.from_whole_seconds.result _ seconds c.from_whole_seconds.ensures.value same (omega (arith, signed_casts))
    ∙ c.in_ok-seconds_of-in-43.ensures.value)

pub returns-in_ok-seconds_of-in-45 : goal.returns-in_ok-seconds_of-in-45
unfolding parse_offset
returns-in_ok-seconds_of-in-45 c =
    let seconds = c.in_ok-seconds_of-in-45.field-0 in
    let range = c.in_ok-seconds_of-in-45.ensures.in_range in
    let same : to_z w32 (of_z w32 (pos 0 -ℤ to_z w32 (of_z w32 seconds))) ≡ neg_ℤ seconds = omega (arith, signed_casts) in
    rw (c.in_ok-sign.ensures.cases.0, c.in-45.is) (c.ok-in-45.ensures.value
    ∙ offset_made c.from_whole_seconds-in-45.result _ (neg_ℤ seconds) c.from_whole_seconds-in-45.ensures.value same (omega (arith, signed_casts))
    ∙ ap (option_map neg_ℤ) c.in_ok-seconds_of-in-45.ensures.value)

pub returns-in_default : goal.returns-in_default
unfolding parse_offset
returns-in_default c =
    let plus : c.in_ok-sign.sign.now ≢ 43 = search rules in
    let minus : c.in_ok-sign.sign.now ≢ 45 = search rules in
    rw c.in_ok-sign.ensures.cases.0 (grind (arith, nat_tests))
