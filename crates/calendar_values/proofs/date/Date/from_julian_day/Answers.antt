use Rattle.std.proofs.Common.{◌≡◌, ◌∙◌, ℤ, pos, ◌-ℤ◌, ap, sym, arith}
use Rattle.std.proofs.lemmas.Int.{ints}
use Rattle.std.specs.Prelude.{Ok}
use Rattle.calendar_values.specs.Constructors.{julian_date}
use Rattle.calendar_values.specs.Range.{IsDay}
use Rattle.calendar_values.specs.SignedArith.{signed_arith}
use Rattle.calendar_values.proofs.date.Date.from_julian_day.Goals as goal

julian_date-in : (j : ℤ) → IsDay (j -ℤ pos 2_440_588) → julian_date j ≡ Ok (j -ℤ pos 2_440_588)
unfolding julian_date
julian_date-in j p = grind (arith, ints)

pub overflow_sub-julian_day : goal.overflow_sub-julian_day
overflow_sub-julian_day c = omega (arith, signed_arith)

pub from_day-requires : goal.from_day-requires
from_day-requires c = (omega (arith, signed_arith), omega (arith, signed_arith))

pub returns-clause-value : goal.returns-clause-value
returns-clause-value c =
    let j = c.args.julian_day in
    let same : c.from_day.result ≡ j -ℤ pos 2_440_588 = omega (arith, signed_arith, c.from_day.ensures) in
    let day : IsDay (j -ℤ pos 2_440_588) = (omega (arith, signed_arith), omega (arith, signed_arith)) in
    record { value = (day, same); refused = tt; equation = ap Ok same ∙ sym (julian_date-in j day) }

pub returns-clause-shown : goal.returns-clause-shown
returns-clause-shown c = omega (arith, signed_arith, c.from_day.ensures)
