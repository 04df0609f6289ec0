use Rattle.rfc3339.proofs.FaultFormLemmas.{full_time_begins, full_time_longest}
use Rattle.rfc3339.proofs.fault.full_time_fault.Goals as goal

pub returns-clause-begins : goal.returns-clause-begins
returns-clause-begins c = rw c.standing.ensures.place (full_time_begins c.args.text.now)

pub returns-clause-longest : goal.returns-clause-longest
returns-clause-longest c = rw c.standing.ensures.place (full_time_longest c.args.text.now)
