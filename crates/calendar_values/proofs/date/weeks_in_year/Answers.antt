use Rattle.std.proofs.Common.{arith, rules, FitsSigned, w32, to_z-of_z, ◌≡◌, ◌∙◌}
use Rattle.calendar_values.specs.Calendar.{year_start, day_of_ordinal_date}
use Rattle.calendar_values.specs.SignedArith.{signed_arith}
use Rattle.calendar_values.specs.Weeks.{weekday_of}
use Rattle.calendar_values.specs.WeekLemmas.{weekday_of-parts}
use Rattle.calendar_values.specs.IsoWeekDateLemmas.{weeks_in_year-closed}
use Rattle.calendar_values.proofs.date.weeks_in_year.Goals as goal

pub returns-clause-value : goal.returns-clause-value
returns-clause-value c =
    let y = c.args.year in
    let fits : FitsSigned w32 y = search rules in
    let length = simp to_z-of_z at c.days_in_year.ensures in
    let weekday : c.number_days_from_monday.result ≡ weekday_of (day_of_ordinal_date y 1) =
    simp to_z-of_z at (c.number_days_from_monday.ensures.value ∙ c.weekday.ensures) in
    omega (arith, signed_arith, weeks_in_year-closed y, length, weekday, weekday_of-parts (year_start y), weekday_of-parts (day_of_ordinal_date y 1))
