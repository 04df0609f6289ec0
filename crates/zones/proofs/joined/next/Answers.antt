use Rattle.std.proofs.Common.{◌≡◌, ℤ, pos, ◌+ℤ◌, ◌<ℤ◌, Some, None, FitsSigned, to_z, of_z, arith, ap, subst, ◌∙◌}
use mir.Syntax.{w64}
use Rattle.calendar_values.specs.SignedArith.{signed_arith}
use Rattle.zones.specs.Clocks.{IsNext}
use Rattle.zones.specs.Cycles.{cycle_second, cycle_type}
use Rattle.zones.specs.Tables.{table_second, type_after, InTable}
use Rattle.zones.specs.Zones.{tail_second}
use Rattle.zones.proofs.JoinedLemmas.{next_early, next_at_seam, next_late}
use Rattle.zones.proofs.joined.next.Goals as goal

back : (z : ℤ) → FitsSigned w64 z → to_z w64 (of_z w64 z) ≡ z
back z h = omega (arith, signed_arith)

pub returns-then-second-tail : goal.returns-then-second-tail
returns-then-second-tail c =
    let first = c.args.first in
    let rows = c.args.rows.now in
    let tail = c.args.tail in
    let j = c.requires.joined in
    let from = j.from_is in
    let fr = tail.from_in in
    let m = c.last_at.result in
    let low = c.last_at.ensures.low in
    let high = c.last_at.ensures.high in
    let begun = c.last_at.ensures.begun in
    let ahead = c.last_at.ensures.not_next in
    let back_m : to_z w64 (of_z w64 (to_z w64 (of_z w64 c.last_at.result) +ℤ pos 1)) ≡ m +ℤ pos 1 = omega (arith, signed_arith) in
    let found = c.transition_of.result in
    next_late first rows tail j c.args.second m (omega (arith, signed_arith)) (omega (arith, signed_arith)) (omega (arith, signed_arith))
    (omega (arith, signed_arith)) found
    (c.transition_of.ensures.second ∙ ap (cycle_second tail.cycle) back_m) (c.transition_of.ensures.before ∙ ap (cycle_type tail.cycle) back_m)
    (c.transition_of.ensures.after ∙ ap (λ (z : ℤ). cycle_type tail.cycle (z +ℤ pos 1)) back_m)

pub transition_of-requires-in-None-clause-high : goal.transition_of-requires-in-None-clause-high
transition_of-requires-in-None-clause-high c =
    let m = c.args.tail.moment_in in
    omega (arith, signed_arith)

pub returns-in-Some : goal.returns-in-Some
returns-in-Some c =
    let first = c.args.first in
    let rows = c.args.rows.now in
    let tail = c.args.tail in
    let j = c.requires.joined in
    let from = j.from_is in
    let fr = tail.from_in in
    let before : c.args.second <ℤ tail_second tail 0 = omega (arith, signed_arith) in
    next_early first rows tail j c.args.second before c.in-Some.row
    (subst (λ (z : ℤ). IsNext (InTable rows) (table_second rows) (type_after first rows) z (Some c.in-Some.row)) (back c.args.second c.ranges.second)
    c.in-Some.ensures)

pub returns-in-None : goal.returns-in-None
returns-in-None c =
    let first = c.args.first in
    let rows = c.args.rows.now in
    let tail = c.args.tail in
    let j = c.requires.joined in
    let from = j.from_is in
    let fr = tail.from_in in
    let before : c.args.second <ℤ tail_second tail 0 = omega (arith, signed_arith) in
    let mi = tail.moment_in in
    let back_m : to_z w64 (of_z w64 tail.moment) ≡ tail.moment = omega (arith, signed_arith) in
    next_at_seam first rows tail j c.args.second before
    (subst (λ (z : ℤ). IsNext (InTable rows) (table_second rows) (type_after first rows) z None) (back c.args.second c.ranges.second) c.in-None.ensures)
    c.transition_of-in-None.result
    (c.transition_of-in-None.ensures.second ∙ ap (cycle_second tail.cycle) back_m)
    (c.transition_of-in-None.ensures.before ∙ ap (cycle_type tail.cycle) back_m)
    (c.transition_of-in-None.ensures.after ∙ ap (λ (z : ℤ). cycle_type tail.cycle (z +ℤ pos 1)) back_m)
