use Rattle.std.proofs.Common.{◌∙◌}
use Rattle.rfc3339.proofs.texts.TimestampRfc3339.from_rfc3339.Goals as goal

pub returns-clause-value : goal.returns-clause-value
returns-clause-value c p h =
    let read = c.in_ok-from_rfc3339.ensures.value p h in (read.0, c.from.ensures ∙ read.1)
