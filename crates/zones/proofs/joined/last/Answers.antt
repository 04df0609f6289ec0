use Rattle.std.proofs.Common.{◌≡◌, ℤ, pos, ◌+ℤ◌, ◌<ℤ◌, FitsSigned, to_z, of_z, arith, ap, subst, ◌∙◌}
use mir.Syntax.{w64}
use Rattle.calendar_values.specs.SignedArith.{signed_arith}
use Rattle.zones.specs.Clocks.{IsLast}
use Rattle.zones.specs.Cycles.{cycle_second, cycle_type}
use Rattle.zones.specs.Tables.{table_second, type_after, InTable}
use Rattle.zones.specs.Zones.{tail_second, joined_second}
use Rattle.zones.proofs.JoinedLemmas.{last_early, last_late, second_early}
use Rattle.zones.proofs.joined.last.Goals as goal

back : (z : ℤ) → FitsSigned w64 z → to_z w64 (of_z w64 z) ≡ z
back z h = omega (arith, signed_arith)

pub returns-then-second-tail : goal.returns-then-second-tail
returns-then-second-tail c =
    let first = c.args.first in
    let rows = c.args.rows.now in
    let tail = c.args.tail in
    let j = c.requires.joined in
    let from = j.from_is in
    let fr = tail.from_in in
    let m = c.last_at.result in
    let low = c.last_at.ensures.low in
    let high = c.last_at.ensures.high in
    let begun = c.last_at.ensures.begun in
    let ahead = c.last_at.ensures.not_next in
    let back_m : to_z w64 (of_z w64 c.last_at.result) ≡ m = omega (arith, signed_arith) in
    let found = c.transition_of.result in
    last_late first rows tail j c.args.second m (omega (arith, signed_arith)) (omega (arith, signed_arith)) (omega (arith, signed_arith))
    (omega (arith, signed_arith)) found
    (c.transition_of.ensures.second ∙ ap (cycle_second tail.cycle) back_m) (c.transition_of.ensures.before ∙ ap (cycle_type tail.cycle) back_m)
    (c.transition_of.ensures.after ∙ ap (λ (z : ℤ). cycle_type tail.cycle (z +ℤ pos 1)) back_m)

pub returns-else-second-tail : goal.returns-else-second-tail
returns-else-second-tail c =
    let first = c.args.first in
    let rows = c.args.rows.now in
    let tail = c.args.tail in
    let j = c.requires.joined in
    let from = j.from_is in
    let fr = tail.from_in in
    let before : c.args.second <ℤ tail_second tail 0 = omega (arith, signed_arith) in
    last_early first rows tail j (table_second rows) (joined_second rows tail) c.args.second
    (λ k b p. second_early first rows tail j c.args.second k before b p) c.last.result
    (subst (λ (z : ℤ). IsLast (InTable rows) (table_second rows) (type_after first rows) z c.last.result) (back c.args.second c.ranges.second)
    c.last.ensures)
