use Rattle.std.proofs.Common.{arith, ◌∙◌, ◌≡◌, ap, ℤ, pos, ◌-ℤ◌, ◌*ℤ◌, to_z, of_z, w32, w64}
use Rattle.calendar_values.specs.SignedArith.{signed_arith}
use Rattle.calendar_values.specs.Clock.{nanos_per_day}
use Rattle.calendar_values.proofs.date.operators.DateSub.sub.Goals as goal

pub returns : goal.returns
returns c =
    let days : to_z w64 (of_z w64 (to_z w64 (of_z w64 (to_z w32 (of_z w32 c.days_since_epoch.result))) -ℤ
    to_z w64 (of_z w64 (to_z w32 (of_z w32 c.days_since_epoch-2.result))))) ≡ c.args.self -ℤ c.args.other = omega (arith, signed_arith) in
    c.days.ensures.value ∙ ap (λ (d : ℤ). d *ℤ pos nanos_per_day) days
