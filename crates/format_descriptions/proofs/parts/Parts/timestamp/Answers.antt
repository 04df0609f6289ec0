use Rattle.std.proofs.Common.{◌∙◌}
use Rattle.format_descriptions.proofs.InstantLemmas.{instant_of_counts-has, instant_of_counts-only}
use Rattle.format_descriptions.proofs.parts.Parts.timestamp.Goals as goal

pub returns-clause-value : goal.returns-clause-value
returns-clause-value c = rw c.named_instant.ensures (instant_of_counts-has c.args.self.now)

pub returns-clause-only : goal.returns-clause-only
returns-clause-only c = λ i here tells has. c.named_instant.ensures ∙ instant_of_counts-only c.args.self.now i here tells has
