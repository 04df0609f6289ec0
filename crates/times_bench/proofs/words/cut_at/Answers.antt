use Rattle.std.proofs.Common.{arith, ◌-◌, ◌+◌, ◌<◌, length, drop, length-drop}
use Rattle.std.proofs.lemmas.List.{take_all}
use Rattle.times_bench.proofs.WordLemmas.{cut_at-none, cut_at-first}
use Rattle.times_bench.proofs.words.cut_at.Goals as goal

pub returns-then-end-text : goal.returns-then-end-text
returns-then-end-text c =
    cut_at-none c.args.separator c.args.text.now (rw c.if-end-text.true at c.place_of-end.ensures.before)

pub returns : goal.returns
returns c =
    let text = c.args.text.now in
    let end = c.place_of-end.result in
    let found = c.place_of-end.ensures in
    let low : end < length text = omega (arith, found.bounds) in
    let behind = take_all (length text - (end + 1)) (drop (end + 1) text) (omega (arith, length-drop (end + 1) text)) in
    rw behind (cut_at-first c.args.separator text end low found.before (found.byte_there low))
