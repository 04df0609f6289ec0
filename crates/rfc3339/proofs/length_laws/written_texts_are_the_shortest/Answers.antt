use Rattle.rfc3339.proofs.ShortestLemmas.{shortest}
use Rattle.rfc3339.proofs.length_laws.written_texts_are_the_shortest.Goals as goal

pub returns : goal.returns
returns c = shortest
