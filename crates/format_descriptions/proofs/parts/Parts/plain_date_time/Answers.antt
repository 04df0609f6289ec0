use Rattle.std.proofs.Common.{◌∙◌}
use Rattle.format_descriptions.proofs.DateTimeLemmas.{plain_of_parts-only}
use Rattle.format_descriptions.proofs.parts.Parts.plain_date_time.Goals as goal

pub returns-clause-only : goal.returns-clause-only
returns-clause-only c = λ wall in_range date time has. c.named_plain.ensures.equation ∙ plain_of_parts-only c.args.self.now wall in_range date time has
