use Rattle.muxandu_c.proofs.zone_batches.interval_of.Goals as goal

pub returns-clause-holds : goal.returns-clause-holds
returns-clause-holds c = λ t within. c.intervals_hold.ensures c.args.zone.now _ t c.interval_at.result c.interval_at.ensures within
