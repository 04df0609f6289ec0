use Rattle.std.proofs.Common.{◌≡◌, ◌+◌, ◌-◌, pos, ◌+ℤ◌, to_z, of_z, arith, ap, ◌∙◌}
use mir.Syntax.{w64}
use borrow.Author.Differences.{up, down}
use Rattle.calendar_values.specs.SignedArith.{signed_arith}
use Rattle.zones.specs.Cycles.{cycle_type, moment_at}
use Rattle.zones.proofs.CycleLemmas.{place_is}
use Rattle.zones.proofs.cycle.Cycle.type_at.Goals as goal

pub returns : goal.returns
returns c =
    let m = c.last_at.result in
    let n = up m + 2_399_000 - down m in
    let low = c.last_at.ensures.low in
    let high = c.last_at.ensures.high in
    let begun = c.last_at.ensures.begun in
    let ahead = c.last_at.ensures.not_next in
    let e : moment_at n ≡ m = omega (arith, signed_arith) in
    let e2 : to_z w64 (of_z w64 (to_z w64 (of_z w64 c.last_at.result) +ℤ pos 1)) ≡ moment_at (n + 1) = omega (arith, signed_arith) in (
      n + 1,
      place_is c.args.self m c.args.second n e (omega (arith, signed_arith)) (omega (arith, signed_arith)),
      c.type_before.ensures ∙ ap
          (cycle_type c.args.self) e2,
    )
