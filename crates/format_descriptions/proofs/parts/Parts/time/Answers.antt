use Rattle.std.proofs.Common.{◌∙◌}
use Rattle.format_descriptions.proofs.ClockLemmas.{time_of_parts-has, time_of_parts-only}
use Rattle.format_descriptions.proofs.parts.Parts.time.Goals as goal

pub returns-clause-value : goal.returns-clause-value
returns-clause-value c = rw c.named_time.ensures (time_of_parts-has c.args.self.now)

pub returns-clause-only : goal.returns-clause-only
returns-clause-only c = λ clock is_clock tells has. c.named_time.ensures ∙ time_of_parts-only c.args.self.now clock is_clock tells has
