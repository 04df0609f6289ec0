use Rattle.std.proofs.Common.{FitsSigned, w32, to_z-of_z, append_assoc, arith, refl, rules}
use Rattle.calendar_values.specs.SignedArith.{signed_arith}
use Rattle.calendar_values.specs.Texts.{date_text}
use Rattle.calendar_values.proofs.date.Date.append_to.Goals as goal

pub push_year-requires-clause-year : goal.push_year-requires-clause-year
push_year-requires-clause-year c = (omega (arith, signed_arith), omega (arith, signed_arith))

pub push_part-requires-clause-room : goal.push_part-requires-clause-room
push_part-requires-clause-room c = omega arith

pub push_part-requires-2-clause-room : goal.push_part-requires-2-clause-room
push_part-requires-2-clause-room c = omega arith

pub returns-clause-text : goal.returns-clause-text
unfolding date_text
returns-clause-text c =
    let fits : FitsSigned w32 c.year.result = search rules in
    let year = simp to_z-of_z at c.push_year.ensures.text in
    let shown = c.month_day-month.ensures in
    rw (c.push_part-2.ensures.value, c.push_part.ensures.value, year, c.year.ensures.value, c.from.ensures, shown.month, shown.day)
    (simp append_assoc refl)

pub returns-clause-length : goal.returns-clause-length
returns-clause-length c = omega arith
