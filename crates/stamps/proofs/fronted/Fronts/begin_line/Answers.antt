use Rattle.std.proofs.Common.{◌≡◌, ◌∙◌, refl}
use Rattle.stamps.specs.FrontRuns.{front_turned}
use Rattle.stamps.proofs.fronted.Fronts.begin_line.Goals as goal

pub returns-clause-ready : goal.returns-clause-ready
unfolding front_turned
returns-clause-ready c = c.in_ok-write_front.ensures ∙ rw (c.take-lead.ensures.lead, c.as_slice-line.ensures.value) refl
