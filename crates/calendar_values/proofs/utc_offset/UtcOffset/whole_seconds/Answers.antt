use Rattle.std.proofs.Common.{◌≡◌, pos, ◌+ℤ◌, ◌*ℤ◌, w8, w32, to_z, of_z, arith, rules}
use Rattle.calendar_values.specs.SignedArith.{signed_arith}
use Rattle.calendar_values.proofs.utc_offset.UtcOffset.whole_seconds.Goals as goal

view : (c : goal.After-in_sixtieths) → c.self.inside.hours *ℤ pos 3_600 +ℤ c.self.inside.minutes *ℤ pos 60 +ℤ c.self.inside.seconds ≡ c.args.self
view c = c.self.view_is

pub returns-clause-value : goal.returns-clause-value
returns-clause-value c =
    let hours : to_z w8 (of_z w8 c.self.inside.hours) ≡ c.self.inside.hours = search rules in
    let minutes : to_z w8 (of_z w8 c.self.inside.minutes) ≡ c.self.inside.minutes = search rules in
    let seconds : to_z w8 (of_z w8 c.self.inside.seconds) ≡ c.self.inside.seconds = search rules in
    omega (arith, signed_arith, view c, c.in_sixtieths-minutes.ensures, c.in_sixtieths.ensures)

pub returns-clause-self_in_range : goal.returns-clause-self_in_range
returns-clause-self_in_range c = omega (arith, signed_arith, view c)

pub returns-clause-in_range : goal.returns-clause-in_range
returns-clause-in_range c = rw (returns-clause-value c) (returns-clause-self_in_range c)

pub in_sixtieths-minutes-requires-clause-units : goal.in_sixtieths-minutes-requires-clause-units
in_sixtieths-minutes-requires-clause-units c =
    let own : to_z w8 (of_z w8 c.self.inside.hours) ≡ c.self.inside.hours = search rules in
    let wide : to_z w32 (of_z w32 (to_z w8 (of_z w8 c.self.inside.hours))) ≡ c.self.inside.hours = omega (arith, signed_arith) in
    omega (arith, signed_arith)

pub in_sixtieths-minutes-requires-clause-sixtieths : goal.in_sixtieths-minutes-requires-clause-sixtieths
in_sixtieths-minutes-requires-clause-sixtieths c =
    let own : to_z w8 (of_z w8 c.self.inside.minutes) ≡ c.self.inside.minutes = search rules in
    let wide : to_z w32 (of_z w32 (to_z w8 (of_z w8 c.self.inside.minutes))) ≡ c.self.inside.minutes = omega (arith, signed_arith) in
    omega (arith, signed_arith)

pub in_sixtieths-requires-clause-sixtieths : goal.in_sixtieths-requires-clause-sixtieths
in_sixtieths-requires-clause-sixtieths c =
    let own : to_z w8 (of_z w8 c.self.inside.seconds) ≡ c.self.inside.seconds = search rules in
    let wide : to_z w32 (of_z w32 (to_z w8 (of_z w8 c.self.inside.seconds))) ≡ c.self.inside.seconds = omega (arith, signed_arith) in
    omega (arith, signed_arith)
