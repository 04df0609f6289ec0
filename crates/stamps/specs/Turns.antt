-- The reader and the writer while the program reads an input, block by block.
use Rattle.std.specs.Prelude.{◌≡◌, ℕ, zero, suc, ◌-◌, ◌^◌, ◌<◌, ◌≤◌, ◌⊎◌, true, false, List, [], length, Some, Result, Ok, Err}
use Rattle.std.specs.Prelude.{IfSome}
use Rattle.std.specs.Io.KnownBytes.{Appends, Consumes}
use Rattle.line_devices.specs.Device.{Devices}
use Rattle.line_devices.specs.Writing.{AppendsBeginning}
use Rattle.stamps.specs.Faults.{FoundIn}
use Rattle.stamps.specs.Progress.{Stands}
use Rattle.stamps.specs.Runs.{input_run, open_run}
use Rattle.stamps.specs.Tallies.{tally_of}
use Rattle.stamps.specs.declared.finding.Finding.{Finding}
use Rattle.stamps.specs.declared.lines.Work.{Work}
use Rattle.stamps.specs.declared.stamps.StampFault.{StampFault}
use Rattle.stamps.specs.declared.stamps.StampFault.TheVariants.{Read, Write, Found}
use Rattle.stamps.specs.declared.task.Task.{Task}

-- between two reads: the output was written as far as the bytes that were read decide it, and no call failed
pub record GoesOn (task : Task) (first now : Devices) (pending : List ℕ) (work : Work) (taken : List ℕ) : Type 0 where
  pub consumed : Consumes first.left now.left taken
  pub stands : Stands task first.written now.written pending work taken
  pub empty : pending ≡ []
  pub no_read_failed : now.read_failed ≡ false
  pub no_write_failed : now.write_failed ≡ false

-- the input is at its end, its output was written, the state is that after it, it has no finding, and the tally is that of it
pub record EndsWell (task : Task) (first now : Devices) (work : Work) : Type 0 where
  pub none_left : IfSome first.left (λ _. now.left ≡ Some [])
  pub written : IfSome first.left (λ input. Appends first.written now.written (input_run task input).text)
  pub end : IfSome first.left (λ input. (input_run task input).end ≡ Ok work.state)
  pub tally : IfSome first.left (λ input. work.state.tally ≡ tally_of task input)
  pub no_read_failed : now.read_failed ≡ false
  pub no_write_failed : now.write_failed ≡ false

-- a read failed, and the output was written as far as the bytes that were read decide it
pub record StopsAtRead (task : Task) (first now : Devices) : Type 0 where
  pub read_failed : (now.read_failed ≡ true) ⊎ IfSome first.left (λ input. 2 ^ 64 - 1 ≤ length input)
  pub written : (taken : List ℕ) × Consumes first.left now.left taken × Appends first.written now.written (open_run task taken).text
  pub no_write_failed : now.write_failed ≡ false

-- a write failed, and a beginning of the output for the input was written
pub record StopsAtWrite (task : Task) (first now : Devices) : Type 0 where
  pub write_failed : now.write_failed ≡ true
  pub written : IfSome first.left (λ input. AppendsBeginning first.written now.written (input_run task input).text)
  pub no_read_failed : now.read_failed ≡ false

-- a line ends the run, and the output before it was written
pub record StopsAtLine (task : Task) (first now : Devices) (found : Finding) : Type 0 where
  pub found_in : IfSome first.left (λ input. FoundIn first.written now.written (input_run task input) found)
  pub no_read_failed : now.read_failed ≡ false
  pub no_write_failed : now.write_failed ≡ false

-- the reader and the writer after the fault that ended the work
abbrev pub Stops : Task → StampFault → Devices → Devices → Type 0
Stops task Read first now = StopsAtRead task first now
Stops task Write first now = StopsAtWrite task first now
Stops task (Found found) first now = StopsAtLine task first now found

-- after the bytes that were read, more were read, none is left, or a fault ended the work
abbrev pub Turns : Result ℕ StampFault → Task → Devices → Devices → List ℕ → Work → List ℕ → Type 0
Turns (Ok zero) task first now pending work taken = EndsWell task first now work
Turns (Ok (suc more)) task first now pending work taken =
    (longer : List ℕ) × (length taken < length longer) × GoesOn task first now pending work longer
Turns (Err fault) task first now pending work taken = Stops task fault first now
