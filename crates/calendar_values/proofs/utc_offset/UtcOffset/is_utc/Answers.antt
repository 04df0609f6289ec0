use Rattle.std.proofs.Common.{arith}
use Rattle.std.proofs.lemmas.Int.{ints}
use Rattle.calendar_values.proofs.utc_offset.UtcOffset.is_utc.Goals as goal

pub returns : goal.returns
returns c = grind (arith, ints)
