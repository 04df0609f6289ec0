use Rattle.rfc3339.specs.TextLemmas.{one_reading}
use Rattle.rfc3339.proofs.laws.texts_have_one_reading.Goals as goal

pub returns : goal.returns
returns c = one_reading
