use Rattle.rfc3339.specs.ValueLemmas.{one_value}
use Rattle.rfc3339.proofs.laws.texts_tell_values.Goals as goal

pub returns : goal.returns
returns c = one_value
