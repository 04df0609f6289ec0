use Rattle.std.proofs.Common.{◌∙◌}
use Rattle.format_descriptions.proofs.OffsetLemmas.{offset_of_parts-has, offset_of_parts-only}
use Rattle.format_descriptions.proofs.parts.Parts.offset.Goals as goal

pub returns-clause-value : goal.returns-clause-value
returns-clause-value c = rw c.named_offset.ensures (offset_of_parts-has c.args.self.now)

pub returns-clause-only : goal.returns-clause-only
returns-clause-only c = λ offset in_range tells has. c.named_offset.ensures ∙ offset_of_parts-only c.args.self.now offset in_range tells has
