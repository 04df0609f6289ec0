use Rattle.stamps.proofs.GapLawLemmas.{ends, text}
use Rattle.stamps.proofs.laws.gaps_tell_silences.Goals as goal

pub returns : goal.returns
returns c = record { text = text; ends = ends }
