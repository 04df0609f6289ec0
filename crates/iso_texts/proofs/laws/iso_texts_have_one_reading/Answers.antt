use Rattle.iso_texts.proofs.IsoFormLemmas.{iso_one_reading}
use Rattle.iso_texts.proofs.laws.iso_texts_have_one_reading.Goals as goal

pub returns : goal.returns
returns c = iso_one_reading
