use Rattle.std.proofs.Common.{to_z-of_z}
use Rattle.utc_times.proofs.utc_date_time.UtcDateTime.replace_year.Goals as goal

pub returns-clause-value : goal.returns-clause-value
returns-clause-value c = rw c.or_refused.ensures (rw (to_z-of_z c.ranges.year, c.as_plain.ensures) at c.replace_year.ensures.value)

pub returns-clause-shown : goal.returns-clause-shown
returns-clause-shown c = rw c.or_refused.ensures (rw (to_z-of_z c.ranges.year, c.as_plain.ensures) at c.replace_year.ensures.shown)
