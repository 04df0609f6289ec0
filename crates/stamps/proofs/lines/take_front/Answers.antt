use Rattle.std.proofs.Common.{arith, ◌<◌, ◌+◌, ◌++◌, length, drop, refl}
use Rattle.std.proofs.lemmas.Result.{err_from_is_err_and}
use Rattle.std.proofs.lemmas.List.{take_all}
use Rattle.stamps.proofs.BlockLemmas.{line_joined, line_rejoined}
use Rattle.stamps.proofs.lines.take_front.Goals as goal

pub returns-then-end-text-clause-stands : goal.returns-then-end-text-clause-stands
returns-then-end-text-clause-stands g c = λ base taken h.
    rw (take_all c.place_of-end.result c.args.text.now (omega (arith, c.if-end-text.true))) (c.in_ok-take_part.ensures.stands refl base taken h)

pub returns-clause-stands : goal.returns-clause-stands
returns-clause-stands g c = λ base taken h.
    let text = c.args.text.now in
    let end = c.place_of-end.result in
    let low : end < length text = omega (arith, c.place_of-end.ensures.bounds) in
    rw (← line_joined taken text end low (c.place_of-end.ensures.byte_there low)) (c.in_ok-end_line.ensures.stands refl base taken h)

pub returns-in_err-end_line-clause-ends : goal.returns-in_err-end_line-clause-ends
returns-in_err-end_line-clause-ends g c =
    let p = err_from_is_err_and c.from_residual-in_err-end_line.result c.from_residual-in_err-end_line.ensures.1 in
    let text = c.args.text.now in
    let end = c.place_of-end.result in
    let low : end < length text = omega (arith, c.place_of-end.ensures.bounds) in
    rw (p.1, p.2) (λ base taken more h.
    rw (← line_rejoined taken text more end low (c.place_of-end.ensures.byte_there low))
    (c.in_err-end_line.ensures.ends base taken (drop (end + 1) text ++ more) h))
