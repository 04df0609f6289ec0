use Rattle.std.proofs.Common.{◌≡◌, ◌-◌, ◌≤◌, ◌-ℤ◌, arith, pos, of_z, refl, rules, sym, to_z, w32}
use Rattle.calendar_values.specs.SignedArith.{signed_arith}
use Rattle.stamps.proofs.FirstYearLemmas.{year_below}
use Rattle.stamps.proofs.first_years.+latest_year.Goals as goal

pub returns-clause-year : goal.returns-clause-year
returns-clause-year t c =
    let some : 1 ≤ c.args.years = omega (arith, c.if-years-eq0.false) in
    let below : to_z w32 (of_z w32 (to_z w32 (of_z w32 c.args.top) -ℤ pos 1)) ≡ c.args.top -ℤ pos 1 =
    omega (arith, signed_arith, c.ranges.top.sfits, c.requires.le) in
    let top : to_z w32 (of_z w32 c.args.top) ≡ c.args.top = search rules in
    let set = rw top at c.set_year.ensures in
    let later = rw set at c.if-is_until.ensures in
    year_below c.args.reader.now c.set_year.new.reader c.args.is_first c.args.line.now c.args.bound c.args.top _ c.args.years (c.args.years - 1)
    c.latest_year.result below refl set some (sym later) c.latest_year.ensures.year
