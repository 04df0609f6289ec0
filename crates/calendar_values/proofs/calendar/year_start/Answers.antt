use Rattle.std.proofs.Common.{arith}
use Rattle.calendar_values.specs.SignedArith.{signed_casts}
use Rattle.calendar_values.proofs.YearRangeLemmas.{year_start-years, year_start_bounds}
use Rattle.calendar_values.proofs.calendar.year_start.Goals as goal

pub overflow_cast-result : goal.overflow_cast-result
overflow_cast-result c = omega (arith, signed_casts)

pub overflow_sub-result : goal.overflow_sub-result
overflow_sub-result c = omega (arith, signed_casts)

pub returns-clause-value : goal.returns-clause-value
returns-clause-value c = omega (arith, signed_casts, year_start-years c.args.year c.requires)

pub returns-clause-low : goal.returns-clause-low
returns-clause-low c = omega (arith, signed_casts, year_start-years c.args.year c.requires, year_start_bounds c.args.year c.requires)

pub returns-clause-high : goal.returns-clause-high
returns-clause-high c = omega (arith, signed_casts, year_start-years c.args.year c.requires, year_start_bounds c.args.year c.requires)
