use Rattle.muxandu_c.proofs.FrontTextLemmas.{date_time_front-spelled}
use Rattle.muxandu_c.proofs.fronts.muxandu_date_time_from_rfc3339_front.Goals as goal

pub returns-in-Ok-clause-same : goal.returns-in-Ok-clause-same
returns-in-Ok-clause-same c stamp rest p e is = date_time_front-spelled c.args.text.now stamp rest p e is

pub returns-in-Err-clause-same : goal.returns-in-Err-clause-same
returns-in-Err-clause-same c stamp rest p e is = date_time_front-spelled c.args.text.now stamp rest p e is
