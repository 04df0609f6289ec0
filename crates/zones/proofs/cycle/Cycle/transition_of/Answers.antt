use Rattle.std.proofs.Common.{◌≡◌, pos, ◌+ℤ◌, to_z, of_z, arith, ap, ◌∙◌}
use mir.Syntax.{w64}
use Rattle.calendar_values.specs.SignedArith.{signed_arith}
use Rattle.zones.specs.Cycles.{cycle_type}
use Rattle.zones.proofs.cycle.Cycle.transition_of.Goals as goal

pub returns-clause-after : goal.returns-clause-after
returns-clause-after c =
    let e : to_z w64 (of_z w64 (c.args.moment +ℤ pos 1)) ≡ c.args.moment +ℤ pos 1 = omega (arith, signed_arith) in
    let e2 : to_z w64 (of_z w64 (to_z w64 (of_z w64 c.args.moment) +ℤ pos 1)) ≡ c.args.moment +ℤ pos 1 = omega (arith, signed_arith) in
    c.type_before-2.ensures ∙ ap (cycle_type c.args.self) e2
