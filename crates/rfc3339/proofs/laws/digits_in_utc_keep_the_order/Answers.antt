use Rattle.rfc3339.proofs.DigitsInUtcLemmas.{digits-order}
use Rattle.rfc3339.proofs.laws.digits_in_utc_keep_the_order.Goals as goal

pub returns : goal.returns
returns c = record { order = digits-order }
