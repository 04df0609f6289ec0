use Rattle.std.proofs.Common.{◌≡◌, ◌∙◌, ℤ, Option, Some, None, to_z, of_z, arith, ap, subst}
use mir.Syntax.{w32}
use Rattle.calendar_values.specs.Months.{months_later}
use Rattle.calendar_values.specs.Range.{SomeDay}
use Rattle.calendar_values.specs.SignedArith.{signed_arith}
use Rattle.calendar_values.specs.WallClock.{wall_clock, wall_day}
use Rattle.zoned_times.proofs.ShiftLemmas.{dated-some, dated-none}
use Rattle.zoned_times.proofs.shifts.months_later.Goals as goal

-- the day a number of months later, of a number that is cast
cast : (n m d : ℤ) → n ≡ m → to_z w32 (of_z w32 d) ≡ d → months_later n (to_z w32 (of_z w32 d)) ≡ months_later m d
cast n m d same e = ap (λ (x : ℤ). months_later x (to_z w32 (of_z w32 d))) same ∙ ap (months_later m) e

pub returns-in-Some : goal.returns-in-Some
returns-in-Some c =
    let w = c.args.now in
    let e : to_z w32 (of_z w32 c.args.months) ≡ c.args.months = (let fits = c.ranges.months in omega (arith, signed_arith)) in
    let day = cast c.date.result (wall_day w) c.args.months c.date.ensures.value e in
    let date = subst (λ (n : ℤ). SomeDay (Some c.in-Some.date) n) day
    (subst (λ (r : Option ℤ). SomeDay r (months_later c.date.result (to_z w32 (of_z w32 c.args.months)))) c.in-Some.is c.checked_add_months.ensures.value) in
    let at = c.new.ensures ∙ ap (wall_clock c.in-Some.date) c.time.ensures.value in
    dated-some c.args.zone.now w (months_later (wall_day w) c.args.months) c.in-Some.date c.new.result c.at_zone.result c.date.ensures.self_in_range date at
    c.at_zone.ensures

pub returns-in-None : goal.returns-in-None
returns-in-None c =
    let w = c.args.now in
    let e : to_z w32 (of_z w32 c.args.months) ≡ c.args.months = (let fits = c.ranges.months in omega (arith, signed_arith)) in
    let day = cast c.date.result (wall_day w) c.args.months c.date.ensures.value e in
    let none = subst (λ (n : ℤ). SomeDay None n) day
    (subst (λ (r : Option ℤ). SomeDay r (months_later c.date.result (to_z w32 (of_z w32 c.args.months)))) c.in-None.is c.checked_add_months.ensures.value) in
    dated-none c.args.zone.now w (months_later (wall_day w) c.args.months) none
