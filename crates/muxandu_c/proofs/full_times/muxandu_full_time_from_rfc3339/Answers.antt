use Rattle.muxandu_c.proofs.FullTimeLemmas.{full_time-spelled, full_time-syntax}
use Rattle.muxandu_c.proofs.full_times.muxandu_full_time_from_rfc3339.Goals as goal

pub returns-in-Ok-clause-spelled : goal.returns-in-Ok-clause-spelled
returns-in-Ok-clause-spelled c = full_time-spelled c.args.text.now

pub returns-in-Err-clause-spelled : goal.returns-in-Err-clause-spelled
returns-in-Err-clause-spelled c = full_time-spelled c.args.text.now

pub returns-in-Ok-clause-syntax : goal.returns-in-Ok-clause-syntax
returns-in-Ok-clause-syntax c = full_time-syntax c.args.text.now

pub returns-in-Err-clause-syntax : goal.returns-in-Err-clause-syntax
returns-in-Err-clause-syntax c = full_time-syntax c.args.text.now
