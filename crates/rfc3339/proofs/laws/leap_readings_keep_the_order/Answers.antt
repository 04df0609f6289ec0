use Rattle.rfc3339.proofs.LeapOrderLemmas.{leap_reading_of-order}
use Rattle.rfc3339.proofs.laws.leap_readings_keep_the_order.Goals as goal

pub returns : goal.returns
returns c = leap_reading_of-order
