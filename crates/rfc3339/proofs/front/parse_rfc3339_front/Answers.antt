use Rattle.std.proofs.Common.{◌∙◌}
use Rattle.rfc3339.proofs.FrontLemmas.{accepted_front, spelled_front, longest_front, instant_in_range}
use Rattle.rfc3339.proofs.FrontLemmas.{front_reading_of-spelled, front_reading_of-syntax}
use Rattle.rfc3339.proofs.front.parse_rfc3339_front.Goals as goal

pub returns-clause-value : goal.returns-clause-value
returns-clause-value c = accepted_front c.args.text.now c.read_front.result c.read_front.ensures.reading

pub returns-clause-equation : goal.returns-clause-equation
returns-clause-equation c stamp rest p s h =
    c.read_front.ensures.reading ∙ front_reading_of-spelled c.args.text.now stamp rest p s h

pub returns-clause-syntax : goal.returns-clause-syntax
returns-clause-syntax c = rw c.read_front.ensures.reading (front_reading_of-syntax c.args.text.now)

pub returns-clause-accepted : goal.returns-clause-accepted
returns-clause-accepted c = spelled_front c.args.text.now c.read_front.result c.read_front.ensures.reading

pub returns-clause-longest : goal.returns-clause-longest
returns-clause-longest c = longest_front c.args.text.now c.read_front.result c.read_front.ensures.reading

pub returns-clause-instant : goal.returns-clause-instant
returns-clause-instant c = instant_in_range c.read_front.result c.read_front.ensures.has_text
