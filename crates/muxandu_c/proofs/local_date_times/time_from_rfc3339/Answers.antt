use Rattle.std.proofs.Common.{◌∙◌}
use Rattle.muxandu_c.proofs.LocalTextLemmas.{time-spelled, time-syntax}
use Rattle.muxandu_c.proofs.local_date_times.time_from_rfc3339.Goals as goal

pub returns-clause-spelled : goal.returns-clause-spelled
returns-clause-spelled c = λ p. λ h. c.read_time.ensures ∙ time-spelled c.args.text.now p h

pub returns-clause-syntax : goal.returns-clause-syntax
returns-clause-syntax c = rw c.read_time.ensures (time-syntax c.args.text.now)
