use Rattle.rfc3339.proofs.DigitOrderLemmas.{digits_text-order}
use Rattle.rfc3339.proofs.laws.texts_of_digits_keep_the_order.Goals as goal

pub returns : goal.returns
returns c = digits_text-order
