-- The faults that end the work, and the exit status.
use Rattle.std.specs.Prelude.{◌≡◌, ℕ, Bool, List, Option, Result, Ok, Err, if◌then◌else◌}
use Rattle.std.specs.Io.KnownBytes.{Appends}
use Rattle.line_devices.specs.declared.stamp_tallies.StampTally.{StampTally}
use Rattle.stamps.specs.Runs.{Run}
use Rattle.stamps.specs.declared.finding.Finding.{Finding}
use Rattle.stamps.specs.declared.lines.LineFault.{LineFault}
use Rattle.stamps.specs.declared.lines.LineFault.TheVariants as line
use Rattle.stamps.specs.declared.stamps.StampFault.{StampFault}
use Rattle.stamps.specs.declared.stamps.StampFault.TheVariants.{Read, Write, Found}

-- the fault of the work for a fault on the lines of a block
abbrev pub stamp_fault : LineFault → StampFault
stamp_fault line.Write = Write
stamp_fault (line.Found found) = Found found

-- the exit status: as that of `grep`, 1 for a finding or a note, and 2 for an error
abbrev pub status_of : Result StampTally StampFault → Bool → ℕ
status_of (Ok tally) has_told = if has_told then 1 else 0
status_of (Err (Found found)) has_told = 1
status_of (Err Read) has_told = 2
status_of (Err Write) has_told = 2

-- the exit status after a failed write: that of a program which a closed pipe ends, or that of an error
abbrev pub unwritten_status : Bool → ℕ
unwritten_status is_pipe_closed = if is_pipe_closed then 141 else 2

-- the output before the finding was written, and the finding ended the run
pub record FoundIn (old new : Option (List ℕ)) (result : Run) (found : Finding) : Type 0 where
  pub written : Appends old new result.text
  pub named : result.end ≡ Err found
