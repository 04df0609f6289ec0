use Rattle.rfc3339.proofs.FrontLemmas.{has_text_of-front}
use Rattle.rfc3339.proofs.front.read_front.Goals as goal

pub returns-in-Ok-clause-has_text : goal.returns-in-Ok-clause-has_text
returns-in-Ok-clause-has_text c =
    has_text_of-front c.in-Some.parts c.in-Ok.at c.in-Ok.ensures.value c.in-Some.ensures.in_range.0 c.in-Some.ensures.in_range.1
