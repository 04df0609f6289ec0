use Rattle.std.proofs.Common.{◌≡◌, ℤ, pos, ◌+ℤ◌, ◌<ℤ◌, FitsSigned, to_z, of_z, arith, ap, subst, ◌∙◌}
use mir.Syntax.{w64}
use Rattle.calendar_values.specs.SignedArith.{signed_arith}
use Rattle.zones.specs.Clocks.{IsLastStarted, start}
use Rattle.zones.specs.Cycles.{cycle_second, cycle_type, low_offset}
use Rattle.zones.specs.Tables.{table_second, type_after, offset_after, InTable}
use Rattle.zones.specs.Zones.{tail_second, joined_second}
use Rattle.zones.proofs.JoinedLemmas.{joined_offset, last_early, started_late, start_early}
use Rattle.zones.proofs.joined.last_started.Goals as goal

back : (z : ℤ) → FitsSigned w64 z → to_z w64 (of_z w64 z) ≡ z
back z h = omega (arith, signed_arith)

pub returns-then-local-tail : goal.returns-then-local-tail
returns-then-local-tail c =
    let first = c.args.first in
    let rows = c.args.rows.now in
    let tail = c.args.tail in
    let j = c.requires.joined in
    let from = j.from_local_is in
    let fr = tail.from_local_in in
    let m = c.last_start_at.result in
    let low = c.last_start_at.ensures.low in
    let high = c.last_start_at.ensures.high in
    let begun = c.last_start_at.ensures.begun in
    let ahead = c.last_start_at.ensures.not_next in
    let back_m : to_z w64 (of_z w64 c.last_start_at.result) ≡ m = omega (arith, signed_arith) in
    let found = c.transition_of.result in
    started_late first rows tail j c.args.local m (omega (arith, signed_arith)) (omega (arith, signed_arith)) (omega (arith, signed_arith))
    (omega (arith, signed_arith)) found
    (c.transition_of.ensures.second ∙ ap (cycle_second tail.cycle) back_m) (c.transition_of.ensures.before ∙ ap (cycle_type tail.cycle) back_m)
    (c.transition_of.ensures.after ∙ ap (λ (z : ℤ). cycle_type tail.cycle (z +ℤ pos 1)) back_m)

pub returns-else-local-tail : goal.returns-else-local-tail
returns-else-local-tail c =
    let first = c.args.first in
    let rows = c.args.rows.now in
    let tail = c.args.tail in
    let j = c.requires.joined in
    let from = j.from_local_is in
    let fr = tail.from_local_in in
    let before : c.args.local <ℤ (tail_second tail 0 +ℤ low_offset tail.cycle) = omega (arith, signed_arith) in
    last_early first rows tail j (start (table_second rows) (offset_after first rows)) (start (joined_second rows tail) (joined_offset first rows tail))
    c.args.local (λ k b p. start_early first rows tail j c.args.local k before b p) c.last_started.result
    (subst (λ (z : ℤ). IsLastStarted (InTable rows) (table_second rows) (type_after first rows) z c.last_started.result)
    (back c.args.local c.ranges.local) c.last_started.ensures)
