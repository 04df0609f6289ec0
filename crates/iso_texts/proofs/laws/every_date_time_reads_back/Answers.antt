use Rattle.iso_texts.proofs.IsoValueLemmas.{reads_back}
use Rattle.iso_texts.proofs.laws.every_date_time_reads_back.Goals as goal

pub returns : goal.returns
returns c = reads_back
