use Rattle.std.proofs.Common.{◌≡◌, ℤ, ◌≤ℤ◌, ◌<ℤ◌, FitsSigned, to_z, of_z, arith, subst}
use mir.Syntax.{w64}
use Rattle.calendar_values.specs.SignedArith.{signed_arith}
use Rattle.zones.specs.Clocks.{IsTypeAt}
use Rattle.zones.specs.Cycles.{Always, second_at, type_to}
use Rattle.zones.specs.Tables.{table_second, type_after, InTable}
use Rattle.zones.specs.Zones.{tail_second}
use Rattle.zones.proofs.JoinedLemmas.{type_early, type_late}
use Rattle.zones.proofs.joined.type_at.Goals as goal

back : (z : ℤ) → FitsSigned w64 z → to_z w64 (of_z w64 z) ≡ z
back z h = omega (arith, signed_arith)

pub returns-then-second-tail : goal.returns-then-second-tail
returns-then-second-tail c =
    let first = c.args.first in
    let rows = c.args.rows.now in
    let tail = c.args.tail in
    let j = c.requires.joined in
    let from = j.from_is in
    let fr = tail.from_in in
    let begun : tail_second tail 0 ≤ℤ c.args.second = omega (arith, signed_arith) in
    type_late first rows tail j c.args.second c.type_at.result begun
    (subst (λ (z : ℤ). IsTypeAt Always (second_at tail.cycle) (type_to tail.cycle) z c.type_at.result) (back c.args.second c.ranges.second)
    c.type_at.ensures)

pub returns-else-second-tail : goal.returns-else-second-tail
returns-else-second-tail c =
    let first = c.args.first in
    let rows = c.args.rows.now in
    let tail = c.args.tail in
    let j = c.requires.joined in
    let from = j.from_is in
    let fr = tail.from_in in
    let before : c.args.second <ℤ tail_second tail 0 = omega (arith, signed_arith) in
    type_early first rows tail j c.args.second c.type_at-else-second-tail.result before
    (subst (λ (z : ℤ). IsTypeAt (InTable rows) (table_second rows) (type_after first rows) z c.type_at-else-second-tail.result)
    (back c.args.second c.ranges.second) c.type_at-else-second-tail.ensures)
