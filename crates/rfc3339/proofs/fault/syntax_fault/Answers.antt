use Rattle.rfc3339.proofs.FaultFormLemmas.{begins_some, longest_of_form}
use Rattle.rfc3339.proofs.fault.syntax_fault.Goals as goal

pub returns-clause-begins : goal.returns-clause-begins
returns-clause-begins c = rw c.standing.ensures.place (begins_some c.args.text.now)

pub returns-clause-longest : goal.returns-clause-longest
returns-clause-longest c = rw c.standing.ensures.place (longest_of_form c.args.text.now)
