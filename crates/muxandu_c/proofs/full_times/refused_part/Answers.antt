use Rattle.muxandu_c.proofs.FullTimeLemmas.{some_date}
use Rattle.muxandu_c.proofs.full_times.refused_part.Goals as goal

pub returns : goal.returns
returns c = c.refused_text.ensures.date 1970 1 1 some_date
