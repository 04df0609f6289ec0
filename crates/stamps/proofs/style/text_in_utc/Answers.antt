use Rattle.stamps.proofs.StyleLemmas.{text_in_utc}
use Rattle.stamps.proofs.style.text_in_utc.Goals as goal

pub returns-clause-text : goal.returns-clause-text
returns-clause-text c = text_in_utc c.args.at c.to_rfc3339_nanos.result c.to_rfc3339_nanos.ensures.text
