use Rattle.std.proofs.Common.{rules, ◌≡◌, ◌∙◌, sym, w64, None, Some}
use Rattle.std.proofs.lemmas.Int.{to_z-of_z}
use Rattle.times_bench.proofs.NumberLemmas.{i32_of-i64, i32_tried}
use Rattle.times_bench.proofs.numbers.parse_i32.Goals as goal

pub returns-in_err-parse_i64 : goal.returns-in_err-parse_i64
returns-in_err-parse_i64 c =
    let refused : c.from_residual.result ≡ None = search rules in
    refused ∙ sym (i32_of-i64 c.args.text.now None (search rules))

pub returns : goal.returns
returns c =
    let value = c.in_ok-parse_i64.field-0 in
    let same = to_z-of_z w64 value (search rules) in
    c.ok.ensures.value ∙ i32_tried value c.try_from.result (rw same at c.try_from.ensures) ∙ sym (i32_of-i64 c.args.text.now (Some value) (search rules))
