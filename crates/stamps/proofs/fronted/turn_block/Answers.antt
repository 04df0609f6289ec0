use Rattle.std.proofs.Common.{◌≡◌, ◌∙◌, List, ℕ, arith, refl}
use Rattle.std.proofs.lemmas.List.{length-take, take-append-le}
use Rattle.stamps.proofs.FrontRunLemmas.{block_turned, end_turned, ready_none}
use Rattle.stamps.specs.FrontRuns.{text_behind, text_of}
use Rattle.stamps.proofs.fronted.turn_block.Goals as goal

pub returns-in_ok-take-clause-text : goal.returns-in_ok-take-clause-text
unfolding text_of
returns-in_ok-take-clause-text g c = λ some short.
    let was = c.args.fronts.now in
    let now = c.reserve.new.self in
    let turning = c.args.turning.now in
    block_turned turning was now c.take.new.self _ _ _ _
    (λ left. c.reserve.ensures.text turning left ∙ ready_none turning was.known was.is_open was.head.items _ left c.truncate.ensures.items)
    c.in_ok-count.ensures.bytes.0 (take-append-le _ c.read.new.buffer _ c.in_ok-count.ensures.bound.0)
    (c.in_ok-take.ensures.text (c.reserve.ensures.short short))

pub returns-in_ok-take-clause-short : goal.returns-in_ok-take-clause-short
returns-in_ok-take-clause-short g c = λ short. c.in_ok-take.ensures.short (c.reserve.ensures.short short)

pub returns-in_ok-end-clause-end : goal.returns-in_ok-end-clause-end
unfolding text_of
returns-in_ok-end-clause-end g c = λ none short.
    let was = c.args.fronts.now in
    let now = c.reserve.new.self in
    let turning = c.args.turning.now in
    end_turned turning was now c.end.new.self _ _
    (λ left. c.reserve.ensures.text turning left ∙ ready_none turning was.known was.is_open was.head.items _ left c.truncate.ensures.items)
    (rw none at c.in_ok-count.ensures.bytes.0)
    (c.in_ok-count.ensures.bytes.1 none
    (omega (arith, c.read.auto.buffer, c.min-room.ensures, c.requires, length-take c.min-room.result c.args.buffer.now)))
    (c.in_ok-end.ensures.text (c.reserve.ensures.short short))

pub returns-in_ok-end-clause-short : goal.returns-in_ok-end-clause-short
returns-in_ok-end-clause-short g c = λ short. c.in_ok-end.ensures.short (c.reserve.ensures.short short)
