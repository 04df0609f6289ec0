use Rattle.std.proofs.Common.{◌≡◌, ℤ, pos, ◌-ℤ◌, to_z, of_z, arith, subst}
use mir.Syntax.{w64}
use Rattle.calendar_values.specs.SignedArith.{signed_arith}
use Rattle.zones.specs.Seconds.{IsSecond}
use Rattle.zones.specs.Zones.{IsLastTransition}
use Rattle.zones.proofs.zone.Zone.previous_transition.Goals as goal

before : (z : ℤ) → IsSecond z → to_z w64 (of_z w64 (to_z w64 (of_z w64 z) -ℤ pos 1)) ≡ z -ℤ pos 1
before z h = omega (arith, signed_arith)

pub returns : goal.returns
returns c = subst (λ (t : ℤ). IsLastTransition c.args.self.now t c.last_transition.result) (before c.args.second c.requires) c.last_transition.ensures
