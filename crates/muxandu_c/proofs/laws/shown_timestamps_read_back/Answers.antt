use Rattle.muxandu_c.proofs.ReadBackLemmas.{shown_timestamps}
use Rattle.muxandu_c.proofs.laws.shown_timestamps_read_back.Goals as goal

pub returns : goal.returns
returns c = shown_timestamps
