use Rattle.duration_texts.proofs.DerivesLemmas.{reading_of-only}
use Rattle.duration_texts.proofs.readings.parse_duration.Goals as goal

pub returns-clause-all : goal.returns-clause-all
returns-clause-all c = reading_of-only c.args.text.now c.reading.result c.reading.ensures.reading
