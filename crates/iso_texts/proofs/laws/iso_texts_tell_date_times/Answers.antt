use Rattle.iso_texts.proofs.IsoValueLemmas.{one_date_time}
use Rattle.iso_texts.proofs.laws.iso_texts_tell_date_times.Goals as goal

pub returns : goal.returns
returns c = one_date_time
