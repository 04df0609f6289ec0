use Rattle.std.proofs.Common.{◌∙◌}
use Rattle.format_descriptions.proofs.DateTimeLemmas.{local_of_parts-only}
use Rattle.format_descriptions.proofs.parts.Parts.offset_date_time.Goals as goal

pub returns-clause-only : goal.returns-clause-only
returns-clause-only c =
    λ at in_range date time offset has. c.named_local.ensures.equation ∙ local_of_parts-only c.args.self.now at in_range date time offset has
