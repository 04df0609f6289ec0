use Rattle.std.proofs.Common.{arith, rules, ◌≡◌, pos, ◌+ℤ◌, ◌-ℤ◌, to_z-of_z, w32, FitsSigned}
use Rattle.calendar_values.specs.SignedArith.{signed_casts}
use Rattle.calendar_values.specs.Calendar.{year_start}
use Rattle.calendar_values.specs.DayLemmas.{IsDay-ordinal_date}
use Rattle.calendar_values.proofs.date.Date.days_since_epoch.Goals as goal

pub returns-clause-value : goal.returns-clause-value
returns-clause-value c =
    let fits : FitsSigned w32 c.self.inside.year = search rules in
    let start = simp to_z-of_z at c.year_start.ensures.value in
    let number : year_start c.self.inside.year +ℤ pos c.self.inside.ordinal -ℤ pos 1 ≡ c.args.self = c.self.view_is in
    omega (arith, signed_casts)

pub returns-clause-self_in_range : goal.returns-clause-self_in_range
returns-clause-self_in_range c = rw (← c.self.view_is) (IsDay-ordinal_date _ _ c.self.invariant.0 c.self.invariant.1)
