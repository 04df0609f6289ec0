use Rattle.std.proofs.Common.{rules, arith, ◌≡◌, Some}
use Rattle.times_bench.proofs.RequestLemmas.{length-words, bytes_left-room}
use Rattle.times_bench.proofs.requests.parse_instant.Goals as goal

pub returns-clause-shorter : goal.returns-clause-shorter
returns-clause-shorter c =
    let next : c.cut_at.result.1 ≡ Some c.in_ok-words.field-0 = search rules in
    let first = length-words c.args.words.now c.cut_at.result.0.now (Some c.in_ok-words.field-0) (rw next at c.cut_at.ensures) in
    let second = length-words c.in_ok-words.field-0.now c.cut_at-2.result.0.now c.cut_at-2.result.1 c.cut_at-2.ensures in
    omega (arith, first, second, bytes_left-room c.cut_at-2.result.1)
