use Rattle.muxandu_c.proofs.StatusLawLemmas.{statuses}
use Rattle.muxandu_c.proofs.laws.statuses_tell.Goals as goal

pub returns-clause-timestamps : goal.returns-clause-timestamps
returns-clause-timestamps c = statuses _

pub returns-clause-date_times : goal.returns-clause-date_times
returns-clause-date_times c = statuses _

pub returns-clause-durations : goal.returns-clause-durations
returns-clause-durations c = statuses _

pub returns-clause-dates : goal.returns-clause-dates
returns-clause-dates c = statuses _
