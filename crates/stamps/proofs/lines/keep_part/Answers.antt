use Rattle.std.proofs.Common.{arith, refl, inl, ◌∙◌, subst, sym, ◌≡◌, ◌≤◌, ◌<◌, ◌++◌, List, ℕ, length, length-append, take}
use Rattle.std.proofs.lemmas.Result.{err_from_is_err_and, MatchResult-weaker}
use Rattle.std.proofs.lemmas.List.{take_all}
use Rattle.stamps.specs.declared.lines.Work.{Work}
use Rattle.stamps.proofs.PartLemmas.{kept_more}
use Rattle.stamps.proofs.StepLemmas.{front_filled, long_enough, fill_begun, fill_fault, fill_stands, fill_ends}
use Rattle.stamps.proofs.lines.keep_part.Goals as goal

pub returns-then-part-room-clause-stands : goal.returns-then-part-room-clause-stands
returns-then-part-room-clause-stands g c = λ ok base taken k.
    let head = c.args.work.now.head in
    let part = c.args.part.now in
    let short : length (head ++ part) < 65536 = omega (arith, c.room-room.ensures, c.if-part-room.true, length-append head part) in
    inl (kept_more c.args.task.now base _ _ c.args.work.now _ taken part k c.requires refl k.progress
    (c.push_front_of.ensures ∙ take_all 65536 (head ++ part) (omega (arith, short))) short)

pub returns-in_err-work-clause-ends : goal.returns-in_err-work-clause-ends
returns-in_err-work-clause-ends g c =
    let p = err_from_is_err_and c.from_residual.result c.from_residual.ensures.1 in
    let head = c.args.work.now.head in
    let part = c.args.part.now in
    let room = c.room-room.result in
    let low : room ≤ length part = omega (arith, c.if-part-room.false) in
    let line : c.items.result.now ≡ head ++ take room part = c.items.ensures.value ∙ c.push_front_of.ensures
    ∙ front_filled head part room c.room-room.ensures in
    let long : 65536 ≤ length c.items.result.now = subst (λ (z : List ℕ). 65536 ≤ length z) (sym line) (long_enough head part room c.room-room.ensures low) in
    let task = c.args.task.now in
    let items = c.items.result.now in
    rw (p.1, p.2) (λ base taken more k.
    fill_fault task base _ _ c.args.pending.now c.begin.new.pending c.args.work.now taken part more items room c.begin.new.state _ k c.requires line long
    c.in_err-work.ensures.begins)

pub returns-clause-stands : goal.returns-clause-stands
returns-clause-stands g c = λ ok base taken k.
    let head = c.args.work.now.head in
    let part = c.args.part.now in
    let room = c.room-room.result in
    let low : room ≤ length part = omega (arith, c.if-part-room.false) in
    let line : c.items.result.now ≡ head ++ take room part = c.items.ensures.value ∙ c.push_front_of.ensures
    ∙ front_filled head part room c.room-room.ensures in
    let long : 65536 ≤ length c.items.result.now = subst (λ (z : List ℕ). 65536 ≤ length z) (sym line) (long_enough head part room c.room-room.ensures low) in
    let work : Work = record { state = c.begin.new.state; progress = c.in_ok-work.field-0; head = c.push_front_of.new.self } in
    fill_stands c.args.task.now base _ _ c.begin.new.pending _ work taken part room c.pass.result c.requires ok
    (rw c.rest_of.ensures at c.pass.ensures.passed)
    (fill_begun c.args.task.now base _ _ c.args.pending.now c.begin.new.pending c.args.work.now work taken part c.items.result.now room c.in_ok-work.field-0 k
    c.requires line long c.in_ok-work.ensures.state refl c.in_ok-work.ensures.begins)

pub returns-clause-ends : goal.returns-clause-ends
returns-clause-ends g c =
    let head = c.args.work.now.head in
    let part = c.args.part.now in
    let room = c.room-room.result in
    let low : room ≤ length part = omega (arith, c.if-part-room.false) in
    let line : c.items.result.now ≡ head ++ take room part = c.items.ensures.value ∙ c.push_front_of.ensures
    ∙ front_filled head part room c.room-room.ensures in
    let long : 65536 ≤ length c.items.result.now = subst (λ (z : List ℕ). 65536 ≤ length z) (sym line) (long_enough head part room c.room-room.ensures low) in
    let work : Work = record { state = c.begin.new.state; progress = c.in_ok-work.field-0; head = c.push_front_of.new.self } in
    let ends = fill_ends c.args.task.now _ _ c.begin.new.pending c.pass.new.pending work part room c.pass.result c.requires
    (rw c.rest_of.ensures at c.pass.ensures.passed) in
    MatchResult-weaker c.pass.result ends (λ _ u. u)
    (λ fault f base taken more k. f base taken more
    (fill_begun c.args.task.now base _ _ c.args.pending.now c.begin.new.pending c.args.work.now work taken part c.items.result.now room c.in_ok-work.field-0 k
    c.requires line long c.in_ok-work.ensures.state refl c.in_ok-work.ensures.begins))
