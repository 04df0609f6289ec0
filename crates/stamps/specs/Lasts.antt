-- The last stamps of files.
use Rattle.std.specs.Prelude.{◌≡◌, ℤ, int_lt, if◌then◌else◌, Option, Some, None, Result, Ok, Err}
use Rattle.line_devices.specs.declared.stamp_tallies.StampTally.{StampTally}
use Rattle.stamps.specs.Runs.{Run}
use Rattle.stamps.specs.declared.decide.State.{State}
use Rattle.stamps.specs.declared.stamps.StampFault.{StampFault}

-- the run of an input ends with this last instant
abbrev pub HasLast : Run → Option ℤ → Type 0
HasLast run last = (state : State) × (run.end ≡ Ok state) × (last ≡ state.last)

-- the last instant of a work that has ended
abbrev pub last_if_ended : Result StampTally StampFault → State → Result (Option ℤ) StampFault
last_if_ended (Ok tally) state = Ok state.last
last_if_ended (Err fault) state = Err fault

-- the later of two instants, each of which may be missing
abbrev pub latest_of : Option ℤ → Option ℤ → Option ℤ
latest_of (Some before) (Some i) = if int_lt i before then Some before else Some i
latest_of None (Some i) = Some i
latest_of before None = before
