use Rattle.stamps.proofs.ChangeLawLemmas.{as_at_first, reason, stays}
use Rattle.stamps.proofs.ChangeRunLemmas.{count_stays, merge_stays}
use Rattle.stamps.proofs.RemedyLemmas.{remedy}
use Rattle.stamps.proofs.laws.forms_change_for_a_reason.Goals as goal

pub returns : goal.returns
returns c = record { stays = stays; count_stays = count_stays; merge_stays = merge_stays; reason = reason; as_at_first = as_at_first; remedy = remedy }
