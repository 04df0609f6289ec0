use Rattle.iso_texts.proofs.IsoValueLemmas.{text_of_rfc3339}
use Rattle.iso_texts.proofs.laws.iso_texts_are_those_of_rfc3339.Goals as goal

pub returns : goal.returns
returns c = text_of_rfc3339
