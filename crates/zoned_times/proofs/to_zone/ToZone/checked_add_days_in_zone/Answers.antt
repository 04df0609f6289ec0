use Rattle.std.proofs.Common.{◌≡◌, ℤ, pos, ◌+ℤ◌, ◌*ℤ◌, Option, to_z, of_z, arith, subst}
use mir.Syntax.{w64}
use Rattle.calendar_values.specs.Clock.{nanos_per_day}
use Rattle.calendar_values.specs.SignedArith.{signed_arith}
use Rattle.offset_times.specs.Local.{Local}
use Rattle.zoned_times.specs.Zoned.{ShownIn, AreIfAny}
use Rattle.zoned_times.proofs.ShiftLemmas.{moved-some, moved-none}
use Rattle.zoned_times.proofs.to_zone.ToZone.checked_add_days_in_zone.Goals as goal

pub returns-in-Some : goal.returns-in-Some
returns-in-Some g c =
    let z = c.args.zone.now in
    let i = g.Self.ToZone.instant_zoned c.args.self in
    let shown = subst (λ (r : Option Local). ShownIn z i r) c.in-Some.is c.to_zone.ensures.value in
    let e : to_z w64 (of_z w64 c.args.days) ≡ c.args.days = (let fits = c.ranges.days in omega (arith, signed_arith)) in
    let later = subst (λ (n : ℤ). AreIfAny z c.date_time.result (c.date_time.result +ℤ n *ℤ pos nanos_per_day) c.days_later.result) e c.days_later.ensures in
    let here = subst (λ (w : ℤ). AreIfAny z w (w +ℤ c.args.days *ℤ pos nanos_per_day) c.days_later.result) c.date_time.ensures.value later in
    moved-some z i c.in-Some.shown (λ (w : ℤ). w +ℤ c.args.days *ℤ pos nanos_per_day) c.days_later.result shown here

pub returns-in-None : goal.returns-in-None
returns-in-None g c =
    let z = c.args.zone.now in
    let i = g.Self.ToZone.instant_zoned c.args.self in
    let shown = subst (λ (r : Option Local). ShownIn z i r) c.in-None.is c.to_zone.ensures.value in
    moved-none z i (λ (w : ℤ). w +ℤ c.args.days *ℤ pos nanos_per_day) shown
