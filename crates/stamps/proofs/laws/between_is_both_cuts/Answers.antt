use Rattle.stamps.proofs.CutLawLemmas.{between_end, between_text}
use Rattle.stamps.proofs.CutTwiceLemmas.{since_of_until, until_of_since}
use Rattle.stamps.proofs.laws.between_is_both_cuts.Goals as goal

pub returns : goal.returns
returns c =
    record { text = between_text; ends = between_end; since_of_until = since_of_until; until_of_since = until_of_since }
