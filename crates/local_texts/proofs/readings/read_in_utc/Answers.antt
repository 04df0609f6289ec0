use Rattle.std.proofs.Common.{◌∙◌, sym}
use Rattle.local_texts.proofs.ReadingLemmas.{reading_of-same, reading_of-none}
use Rattle.local_texts.proofs.readings.read_in_utc.Goals as goal

pub returns-in-Some : goal.returns-in-Some
returns-in-Some c = c.parse_rfc3339.ensures.reading ∙ reading_of-same _ _ c.in-Some.ensures.same

pub returns-in-None : goal.returns-in-None
returns-in-None c = sym (reading_of-none _ c.in-None.ensures.other)
