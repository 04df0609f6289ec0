use Rattle.stamps.proofs.UtcLawLemmas.{rest_stays, same_instant, twice}
use Rattle.stamps.proofs.laws.utc_twice_is_once.Goals as goal

pub returns : goal.returns
returns c = record { same_instant = same_instant; rest_stays = rest_stays; twice = twice }
