-- The exit status of a count.
use Rattle.std.specs.Prelude.{ℕ, ◌||◌, Result, Ok, Err, is_some, if◌then◌else◌}
use Rattle.line_counts.specs.declared.tallies.CountFault.{CountFault}
use Rattle.line_counts.specs.declared.tallies.CountFault.TheVariants.{Read, Write, Missing, Back}
use Rattle.line_counts.specs.declared.tallies.Tally.{Tally}
use Rattle.line_devices.specs.StampTallies.{is_poor}
use Rattle.stamps.specs.declared.changes.Choice.{Choice}

-- 1 for a line that goes back, for lines of which too many have no stamp, or for one that a strict count ends at, and 2 for an error
abbrev pub count_status : Result (Tally Choice) CountFault → ℕ
count_status (Ok tally) = if is_some tally.back || is_poor tally.stamps then 1 else 0
count_status (Err (Missing line)) = 1
count_status (Err (Back line)) = 1
count_status (Err Read) = 2
count_status (Err Write) = 2
