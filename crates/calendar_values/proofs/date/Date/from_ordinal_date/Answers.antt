use Rattle.std.proofs.Common.{arith, rules, FitsSigned, w32, to_z-of_z}
use Rattle.calendar_values.specs.Calendar.{IsOrdinalDate}
use Rattle.calendar_values.specs.DayLemmas.{year_of-ordinal_date, ordinal_of-ordinal_date}
use Rattle.calendar_values.proofs.date.Date.from_ordinal_date.Goals as goal

pub returns-clause-shown : goal.returns-clause-shown
returns-clause-shown c =
    let fits : FitsSigned w32 c.args.year = search rules in
    let length = simp to_z-of_z at c.days_in_year.ensures in
    let there : IsOrdinalDate c.args.year c.args.ordinal = record { first = omega arith; last = omega arith } in
    simp to_z-of_z (record { year = year_of-ordinal_date _ _ there; ordinal = ordinal_of-ordinal_date _ _ there })
