use Rattle.std.proofs.Common.{◌≡◌, arith, rules, to_z-of_z, pos, ◌+ℤ◌, ◌-ℤ◌, to_z, of_z, w8, w16}
use Rattle.calendar_values.specs.SignedArith.{signed_casts}
use Rattle.calendar_values.specs.YearLemmas.{year_start-next, days_in_year_bounds}
use Rattle.offset_times.proofs.NextYearLemmas.{year_start-previous, year_before, year_after}
use Rattle.offset_times.proofs.carries.ordinal_date_after.Goals as goal

pub returns-then-moved-lt1-clause-day : goal.returns-then-moved-lt1-clause-day
returns-then-moved-lt1-clause-day c =
    let length = rw (year_before c.args.year c.requires.year) at c.length_of_year.ensures.value in
    rw (year_before c.args.year c.requires.year) (omega (
      arith,
      signed_casts,
      days_in_year_bounds c.args.year,
      days_in_year_bounds (c.args.year -ℤ pos 1),
      year_start-previous c.args.year,
    ))

pub returns-clause-date : goal.returns-clause-date
returns-clause-date c =
    let length = rw (to_z-of_z c.ranges.year) at c.length_of_year-length.ensures.value in
    rw (year_after c.args.year c.requires.year) (omega (arith, signed_casts, days_in_year_bounds c.args.year, days_in_year_bounds (c.args.year +ℤ pos 1)))

pub returns-clause-day : goal.returns-clause-day
returns-clause-day c =
    let length = rw (to_z-of_z c.ranges.year) at c.length_of_year-length.ensures.value in
    rw (year_after c.args.year c.requires.year) (omega (arith, signed_casts, days_in_year_bounds c.args.year, year_start-next c.args.year))

pub moved_ordinal-moved-requires-clause-days : goal.moved_ordinal-moved-requires-clause-days
moved_ordinal-moved-requires-clause-days c = omega (arith, signed_casts)

pub overflow_sub-year : goal.overflow_sub-year
overflow_sub-year c = omega (arith, signed_casts)

pub overflow_add-result : goal.overflow_add-result
overflow_add-result c = omega (arith, signed_casts)

pub overflow_cast-result : goal.overflow_cast-result
overflow_cast-result c =
    let days : to_z w8 (of_z w8 c.args.days) ≡ c.args.days = search rules in
    let moved : to_z w16 (of_z w16 c.moved_ordinal-moved.result) ≡ c.moved_ordinal-moved.result = search rules in
    omega (arith, signed_casts)

pub overflow_cast-result-then-moved-le365 : goal.overflow_cast-result-then-moved-le365
overflow_cast-result-then-moved-le365 c = omega (arith, signed_casts)

pub overflow_cast-result-then-moved-length : goal.overflow_cast-result-then-moved-length
overflow_cast-result-then-moved-length c = omega (arith, signed_casts)

pub overflow_add-result-2 : goal.overflow_add-result-2
overflow_add-result-2 c = omega (arith, signed_casts)

pub overflow_sub-result : goal.overflow_sub-result
overflow_sub-result c = omega (arith, signed_casts)

pub overflow_cast-result-2 : goal.overflow_cast-result-2
overflow_cast-result-2 c = omega (arith, signed_casts)

pub moved_ordinal-moved-requires-clause-ordinal : goal.moved_ordinal-moved-requires-clause-ordinal
moved_ordinal-moved-requires-clause-ordinal c = omega (arith, c.requires.date.last, days_in_year_bounds c.args.year)

pub returns-then-moved-lt1-clause-date : goal.returns-then-moved-lt1-clause-date
returns-then-moved-lt1-clause-date c =
    let days : to_z w8 (of_z w8 c.args.days) ≡ c.args.days = search rules in
    let moved : to_z w16 (of_z w16 c.moved_ordinal-moved.result) ≡ c.moved_ordinal-moved.result = search rules in
    let length = rw (year_before c.args.year c.requires.year) at c.length_of_year.ensures.value in
    rw (year_before c.args.year c.requires.year) (omega (arith, signed_casts))

pub returns-then-moved-le365-clause-date : goal.returns-then-moved-le365-clause-date
returns-then-moved-le365-clause-date c = rw (to_z-of_z c.ranges.year) (omega (arith, signed_casts, days_in_year_bounds c.args.year))

pub returns-then-moved-le365-clause-day : goal.returns-then-moved-le365-clause-day
returns-then-moved-le365-clause-day c =
    let days : to_z w8 (of_z w8 c.args.days) ≡ c.args.days = search rules in
    let moved : to_z w16 (of_z w16 c.moved_ordinal-moved.result) ≡ c.moved_ordinal-moved.result = search rules in
    rw (to_z-of_z c.ranges.year) (omega (arith, signed_casts))

pub returns-then-moved-length-clause-date : goal.returns-then-moved-length-clause-date
returns-then-moved-length-clause-date c =
    let length = rw (to_z-of_z c.ranges.year) at c.length_of_year-length.ensures.value in
    rw (to_z-of_z c.ranges.year) (omega (arith, signed_casts))

pub returns-then-moved-length-clause-day : goal.returns-then-moved-length-clause-day
returns-then-moved-length-clause-day c =
    let days : to_z w8 (of_z w8 c.args.days) ≡ c.args.days = search rules in
    let moved : to_z w16 (of_z w16 c.moved_ordinal-moved.result) ≡ c.moved_ordinal-moved.result = search rules in
    rw (to_z-of_z c.ranges.year) (omega (arith, signed_casts))
