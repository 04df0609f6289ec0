use Rattle.std.proofs.Common.{rules, arith, ◌≡◌, ap, length, Some}
use Rattle.times_bench.specs.Words.{bytes_left}
use Rattle.times_bench.proofs.RequestLemmas.{length-words, bytes_left-room}
use Rattle.times_bench.proofs.requests.read_steps.Goals as goal

pub read_items-requires : goal.read_items-requires
read_items-requires c =
    let text = c.in_ok-words.field-0 in
    let next : c.args.words ≡ Some text = search rules in
    let bytes : bytes_left c.args.words ≡ length text.now = ap bytes_left next in
    let parts = length-words text.now c.cut_at.result.0.now c.cut_at.result.1 c.cut_at.ensures in
    omega (arith, bytes, bytes_left-room c.cut_at.result.1, c.requires)
