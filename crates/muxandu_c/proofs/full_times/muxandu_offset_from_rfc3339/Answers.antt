use Rattle.muxandu_c.proofs.FullTimeLemmas.{offset-spelled}
use Rattle.muxandu_c.proofs.full_times.muxandu_offset_from_rfc3339.Goals as goal

pub returns-clause-spelled : goal.returns-clause-spelled
returns-clause-spelled c = offset-spelled c.args.text.now
