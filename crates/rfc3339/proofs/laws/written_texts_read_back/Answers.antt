use Rattle.rfc3339.specs.ValueLemmas.{read_back}
use Rattle.rfc3339.proofs.laws.written_texts_read_back.Goals as goal

pub returns : goal.returns
returns c = read_back
