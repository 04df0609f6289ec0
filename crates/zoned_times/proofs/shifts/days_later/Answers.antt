use Rattle.std.proofs.Common.{◌≡◌, ◌∙◌, ℤ, ◌+ℤ◌, Option, Some, None, to_z, of_z, arith, ap, subst}
use mir.Syntax.{w64}
use Rattle.calendar_values.specs.Range.{SomeDay}
use Rattle.calendar_values.specs.SignedArith.{signed_arith}
use Rattle.calendar_values.specs.WallClock.{wall_clock, wall_day}
use Rattle.zoned_times.specs.Zoned.{AreIfAny}
use Rattle.zoned_times.proofs.ShiftLemmas.{dated-some, dated-none, wall_clock-days_later}
use Rattle.zoned_times.proofs.shifts.days_later.Goals as goal

pub returns-in-Some : goal.returns-in-Some
returns-in-Some c =
    let w = c.args.now in
    let e : to_z w64 (of_z w64 c.args.days) ≡ c.args.days = (let fits = c.ranges.days in omega (arith, signed_arith)) in
    let is = c.date.ensures.value in
    let day : c.date.result +ℤ to_z w64 (of_z w64 c.args.days) ≡ wall_day w +ℤ c.args.days = omega (arith, signed_arith) in
    let date = subst (λ (n : ℤ). SomeDay (Some c.in-Some.date) n) day
    (subst (λ (r : Option ℤ). SomeDay r (c.date.result +ℤ to_z w64 (of_z w64 c.args.days))) c.in-Some.is c.checked_add_days.ensures) in
    let at = c.new.ensures ∙ ap (wall_clock c.in-Some.date) c.time.ensures.value in
    subst (λ (v : ℤ). AreIfAny c.args.zone.now w v (Some c.at_zone.result)) (wall_clock-days_later w c.args.days)
    (dated-some c.args.zone.now w (wall_day w +ℤ c.args.days) c.in-Some.date c.new.result c.at_zone.result c.date.ensures.self_in_range date at
    c.at_zone.ensures)

pub returns-in-None : goal.returns-in-None
returns-in-None c =
    let w = c.args.now in
    let e : to_z w64 (of_z w64 c.args.days) ≡ c.args.days = (let fits = c.ranges.days in omega (arith, signed_arith)) in
    let is = c.date.ensures.value in
    let day : c.date.result +ℤ to_z w64 (of_z w64 c.args.days) ≡ wall_day w +ℤ c.args.days = omega (arith, signed_arith) in
    let none = subst (λ (n : ℤ). SomeDay None n) day
    (subst (λ (r : Option ℤ). SomeDay r (c.date.result +ℤ to_z w64 (of_z w64 c.args.days))) c.in-None.is c.checked_add_days.ensures) in
    subst (λ (v : ℤ). AreIfAny c.args.zone.now w v None) (wall_clock-days_later w c.args.days)
    (dated-none c.args.zone.now w (wall_day w +ℤ c.args.days) none)
