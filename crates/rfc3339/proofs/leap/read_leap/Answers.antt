use Rattle.std.proofs.Common.{◌∙◌}
use Rattle.rfc3339.proofs.LeapLemmas.{leap_reading_of-some, leap_reading_of-none}
use Rattle.rfc3339.proofs.leap.read_leap.Goals as goal

pub returns-in-Some-clause-reading : goal.returns-in-Some-clause-reading
returns-in-Some-clause-reading c =
    c.leap_date_time.ensures.value ∙ leap_reading_of-some c.args.text.now c.in-Some.parts c.in-Some.ensures.value

pub returns-in-None-clause-reading : goal.returns-in-None-clause-reading
returns-in-None-clause-reading c = leap_reading_of-none c.args.text.now c.in-None.ensures.value
