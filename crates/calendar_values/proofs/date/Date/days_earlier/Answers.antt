use Rattle.std.proofs.Common.{arith}
use Rattle.calendar_values.specs.SignedArith.{signed_casts}
use Rattle.calendar_values.proofs.DayStepLemmas.{IsDay-same}
use Rattle.calendar_values.proofs.date.Date.days_earlier.Goals as goal

pub returns : goal.returns
returns c = IsDay-same _ _ _ c.checked_add_days.ensures (omega (arith, signed_casts))
