use Rattle.log_zones.proofs.InstantLemmas.{never_shown}
use Rattle.log_zones.proofs.laws.skipped_is_never_shown.Goals as goal

pub returns : goal.returns
returns c = never_shown
