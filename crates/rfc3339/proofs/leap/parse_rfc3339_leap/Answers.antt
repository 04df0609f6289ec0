use Rattle.std.proofs.Common.{◌∙◌}
use Rattle.rfc3339.proofs.LeapLemmas.{leap_reading_of-spelled, accepted_leap, spelled_leap, syntax_leap, same_leap, marked_leap}
use Rattle.rfc3339.proofs.LeapLemmas.{unmarked_leap, refused_leap, instant_in_range}
use Rattle.rfc3339.proofs.leap.parse_rfc3339_leap.Goals as goal

pub returns-clause-value : goal.returns-clause-value
returns-clause-value c = accepted_leap c.args.text.now c.read_leap.result c.read_leap.ensures.reading

pub returns-clause-equation : goal.returns-clause-equation
returns-clause-equation c p h = c.read_leap.ensures.reading ∙ leap_reading_of-spelled c.args.text.now p h

pub returns-clause-accepted : goal.returns-clause-accepted
returns-clause-accepted c = spelled_leap c.args.text.now c.read_leap.result c.read_leap.ensures.reading

pub returns-clause-syntax : goal.returns-clause-syntax
returns-clause-syntax c = syntax_leap c.args.text.now c.read_leap.result c.read_leap.ensures.reading

pub returns-clause-marked : goal.returns-clause-marked
returns-clause-marked c = marked_leap c.args.text.now c.read_leap.result c.read_leap.ensures.reading

pub returns-clause-unmarked : goal.returns-clause-unmarked
returns-clause-unmarked c = unmarked_leap c.args.text.now c.read_leap.result c.read_leap.ensures.reading

pub returns-clause-same : goal.returns-clause-same
returns-clause-same c = same_leap c.args.text.now c.read_leap.result c.read_leap.ensures.reading

pub returns-clause-no_leap_second : goal.returns-clause-no_leap_second
returns-clause-no_leap_second c = refused_leap c.args.text.now c.read_leap.result c.read_leap.ensures.reading

pub returns-clause-instant : goal.returns-clause-instant
returns-clause-instant c = instant_in_range c.read_leap.result c.read_leap.ensures.has_text
