use Rattle.zones.proofs.LawLemmas.{intervals}
use Rattle.zones.proofs.zone.Zone.interval_for.Goals as goal

pub returns-clause-holds : goal.returns-clause-holds
returns-clause-holds c = λ t within. intervals c.args.self.now _ t c.interval_at.result c.interval_at.ensures within
