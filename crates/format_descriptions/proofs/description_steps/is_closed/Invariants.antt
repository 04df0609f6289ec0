use Rattle.std.proofs.Common.{◌≡◌, length}
use Rattle.format_descriptions.specs.DescriptionSteps.{is_closed}
use Rattle.format_descriptions.proofs.description_steps.is_closed.Given as goal

-- a `]` stands in what is left where one stands in the whole
abbrev pub invariant-loop-first : goal.invariant-loop-first
invariant-loop-first l = is_closed l.rest ≡ is_closed l.text

abbrev pub decreases-loop-first : goal.decreases-loop-first
decreases-loop-first l = length l.rest
