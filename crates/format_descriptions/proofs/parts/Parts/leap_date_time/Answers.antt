use Rattle.std.proofs.Common.{◌∙◌}
use Rattle.format_descriptions.proofs.DateTimeLemmas.{leap_of_parts-only}
use Rattle.format_descriptions.proofs.parts.Parts.leap_date_time.Goals as goal

pub returns-clause-only : goal.returns-clause-only
returns-clause-only c =
    λ at in_range date time offset has last. c.named_leap.ensures.equation ∙ leap_of_parts-only c.args.self.now at in_range date time offset has last
