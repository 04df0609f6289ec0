use Rattle.muxandu_c.proofs.ReadBackLemmas.{timestamps}
use Rattle.muxandu_c.proofs.laws.timestamps_read_back.Goals as goal

pub returns : goal.returns
returns c = timestamps
