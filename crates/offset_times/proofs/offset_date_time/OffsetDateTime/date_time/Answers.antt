use Rattle.offset_times.proofs.LocalLemmas.{IsLocal-fields}
use Rattle.offset_times.proofs.offset_date_time.OffsetDateTime.date_time.Goals as goal

pub returns-clause-self_in_range : goal.returns-clause-self_in_range
returns-clause-self_in_range c = IsLocal-fields c.args.self c.self.inside.date c.self.inside.offset c.self.inside.time c.self.view_is c.self.invariant
