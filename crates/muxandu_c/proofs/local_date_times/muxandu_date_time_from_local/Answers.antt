use Rattle.muxandu_c.proofs.LocalTextLemmas.{local-own, local-plain}
use Rattle.muxandu_c.proofs.local_date_times.muxandu_date_time_from_local.Goals as goal

pub returns-clause-own : goal.returns-clause-own
returns-clause-own c = local-own c.args.offset_seconds c.args.text.now

pub returns-clause-plain : goal.returns-clause-plain
returns-clause-plain c = local-plain c.args.offset_seconds c.args.text.now
