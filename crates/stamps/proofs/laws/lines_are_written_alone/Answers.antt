use Rattle.stamps.proofs.WrittenLawLemmas.{cut, ends, marked, text_of}
use Rattle.stamps.proofs.laws.lines_are_written_alone.Goals as goal

pub returns : goal.returns
returns c = record { text = text_of; cut = cut; marked = marked; ends = ends }
