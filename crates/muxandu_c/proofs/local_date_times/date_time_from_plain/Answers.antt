use Rattle.std.proofs.Common.{◌∙◌}
use Rattle.local_texts.specs.LocalForms.{date_time_in_utc}
use Rattle.muxandu_c.proofs.LocalTextLemmas.{read-spelled, read-syntax}
use Rattle.muxandu_c.proofs.local_date_times.date_time_from_plain.Goals as goal

pub returns-clause-spelled : goal.returns-clause-spelled
returns-clause-spelled c = λ p. λ h. c.read_plain.ensures ∙ read-spelled (date_time_in_utc c.args.text.now) p h

pub returns-clause-syntax : goal.returns-clause-syntax
returns-clause-syntax c = rw c.read_plain.ensures (read-syntax (date_time_in_utc c.args.text.now))
