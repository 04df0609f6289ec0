use Rattle.stamp_times.proofs.chains.held_at_offset.Goals as goal

pub returns-in-Stamp : goal.returns-in-Stamp
returns-in-Stamp c = rw c.in-Stamp.is c.at_offset.ensures.value

pub returns-in-Utc : goal.returns-in-Utc
returns-in-Utc c = rw c.in-Utc.is c.at_offset-in-Utc.ensures.value

pub returns-in-Offset : goal.returns-in-Offset
returns-in-Offset c = rw c.in-Offset.is c.checked_to_offset.ensures.value
