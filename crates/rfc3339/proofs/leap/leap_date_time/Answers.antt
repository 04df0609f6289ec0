use Rattle.rfc3339.proofs.FrontLemmas.{has_text_of-front}
use Rattle.rfc3339.proofs.LeapLemmas.{other_second-value, other_second-refused}
use Rattle.rfc3339.proofs.leap.leap_date_time.Goals as goal

pub returns-in-Ok-clause-value : goal.returns-in-Ok-clause-value
returns-in-Ok-clause-value c = other_second-value c.args.parts c.in-Ok.at c.if-parts-eq60.false c.in-Ok.ensures.value

pub returns-in-Ok-clause-has_text : goal.returns-in-Ok-clause-has_text
returns-in-Ok-clause-has_text c =
    has_text_of-front c.args.parts c.in-Ok.at c.in-Ok.ensures.value c.requires.nanosecond c.requires.year

pub returns-in-Err-clause-value : goal.returns-in-Err-clause-value
returns-in-Err-clause-value c = other_second-refused c.args.parts c.in-Err.refusal c.if-parts-eq60.false c.in-Err.ensures.value
