use Rattle.std.proofs.Common.{◌≡◌, ◌∙◌, ℤ, to_z, of_z, arith, subst, w64}
use Rattle.calendar_values.specs.SignedArith.{signed_arith}
use Rattle.log_zones.specs.Showings.{IsShowing}
use Rattle.zones.specs.Seconds.{IsSecond}
use Rattle.log_zones.proofs.showings.showing_in.Goals as goal

back : (local : ℤ) → IsSecond local → to_z w64 (of_z w64 local) ≡ local
back local range = omega (arith, signed_arith, range.0, range.1)

pub returns : goal.returns
returns c =
    subst (λ (local : ℤ). IsShowing c.args.zone.now local c.showing_at.result)
    (back c.second_of.result c.second_of.ensures.in_range ∙ c.second_of.ensures.value)
    c.showing_at.ensures
