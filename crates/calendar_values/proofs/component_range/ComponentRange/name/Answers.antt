use Rattle.calendar_values.proofs.PartLemmas.{part_name-short}
use Rattle.calendar_values.proofs.component_range.ComponentRange.name.Goals as goal

pub returns-clause-ascii : goal.returns-clause-ascii
returns-clause-ascii c = rw c.name.ensures (part_name-short _).0

pub returns-clause-length : goal.returns-clause-length
returns-clause-length c = rw c.name.ensures (part_name-short _).1
