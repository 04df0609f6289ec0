use Rattle.std.proofs.Common.{◌∙◌}
use Rattle.format_descriptions.proofs.DateLemmas.{date_of_parts-has, date_of_parts-only}
use Rattle.format_descriptions.proofs.parts.Parts.date.Goals as goal

pub returns-clause-value : goal.returns-clause-value
returns-clause-value c = rw c.named_date.ensures (date_of_parts-has c.args.self.now)

pub returns-clause-only : goal.returns-clause-only
returns-clause-only c = λ day in_range tells has. c.named_date.ensures ∙ date_of_parts-only c.args.self.now day in_range tells has
