use Rattle.std.proofs.Common.{◌∙◌}
use Rattle.rfc3339.proofs.FrontLemmas.{accepted_offset, offset_reading_of-spelled, offset_reading_of-syntax}
use Rattle.rfc3339.proofs.front.parse_rfc3339_offset.Goals as goal

pub returns-clause-value : goal.returns-clause-value
returns-clause-value c = accepted_offset c.args.text.now c.read_offset.result c.read_offset.ensures.reading

pub returns-clause-equation : goal.returns-clause-equation
returns-clause-equation c is_west hour minute is h m =
    c.read_offset.ensures.reading ∙ offset_reading_of-spelled c.args.text.now is_west hour minute is h m

pub returns-clause-syntax : goal.returns-clause-syntax
returns-clause-syntax c = rw c.read_offset.ensures.reading (offset_reading_of-syntax c.args.text.now)
