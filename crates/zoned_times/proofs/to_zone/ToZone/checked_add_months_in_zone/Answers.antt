use Rattle.std.proofs.Common.{◌≡◌, ℤ, Option, to_z, of_z, arith, subst}
use mir.Syntax.{w32}
use Rattle.calendar_values.specs.SignedArith.{signed_arith}
use Rattle.offset_times.specs.Local.{Local}
use Rattle.zoned_times.specs.Zoned.{ShownIn, AreIfAny, wall_months_later}
use Rattle.zoned_times.proofs.ShiftLemmas.{moved-some, moved-none}
use Rattle.zoned_times.proofs.to_zone.ToZone.checked_add_months_in_zone.Goals as goal

pub returns-in-Some : goal.returns-in-Some
returns-in-Some g c =
    let z = c.args.zone.now in
    let i = g.Self.ToZone.instant_zoned c.args.self in
    let shown = subst (λ (r : Option Local). ShownIn z i r) c.in-Some.is c.to_zone.ensures.value in
    let e : to_z w32 (of_z w32 c.args.months) ≡ c.args.months = (let fits = c.ranges.months in omega (arith, signed_arith)) in
    let later = subst (λ (n : ℤ). AreIfAny z c.date_time.result (wall_months_later c.date_time.result n) c.months_later.result) e c.months_later.ensures in
    let here = subst (λ (w : ℤ). AreIfAny z w (wall_months_later w c.args.months) c.months_later.result) c.date_time.ensures.value later in
    moved-some z i c.in-Some.shown (λ (w : ℤ). wall_months_later w c.args.months) c.months_later.result shown here

pub returns-in-None : goal.returns-in-None
returns-in-None g c =
    let z = c.args.zone.now in
    let i = g.Self.ToZone.instant_zoned c.args.self in
    let shown = subst (λ (r : Option Local). ShownIn z i r) c.in-None.is c.to_zone.ensures.value in
    moved-none z i (λ (w : ℤ). wall_months_later w c.args.months) shown
