use Rattle.std.proofs.Common.{rules, ◌≡◌, ◌∙◌, Some}
use Rattle.times_bench.specs.CallWords.{parse_month}
use Rattle.times_bench.specs.Numbers.{u8_of}
use Rattle.times_bench.proofs.CallWordLemmas.{month_tried}
use Rattle.times_bench.proofs.call_words.parse_month.Goals as goal

pub returns : goal.returns
unfolding parse_month
returns c =
    let number = c.in_ok-parse_u8.field-0 in
    let read : u8_of c.args.number.now ≡ Some number = search rules in
    rw read (c.ok.ensures.value ∙ month_tried number c.from_number.result c.from_number.ensures.accepted c.from_number.ensures.value)
