use Rattle.format_descriptions.proofs.SourceLemmas.{description_again}
use Rattle.format_descriptions.proofs.laws.written_descriptions_read_back.Goals as goal

pub returns : goal.returns
returns c = λ version items room text places is enough. description_again version room places items text enough is
