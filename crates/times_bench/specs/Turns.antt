-- The reader and the writer while the program answers an input, block by block.
use Rattle.std.specs.Prelude.{◌≡◌, ℕ, zero, suc, ◌-◌, ◌^◌, ◌<◌, ◌≤◌, ◌⊎◌, true, false, List, [], length, Some, Result, Ok, Err, IfSome}
use Rattle.std.specs.Io.KnownBytes.{Appends, Consumes}
use Rattle.line_devices.specs.Device.{Devices}
use Rattle.line_devices.specs.LineParts.{ended_from, rest_from}
use Rattle.line_devices.specs.Lines.{lines_of, whole_lines_of}
use Rattle.line_devices.specs.Writing.{AppendsBeginning}
use Rattle.times_bench.specs.Answers.{answers_of}
use Rattle.times_bench.specs.LineParts.{Holds}
use Rattle.times_bench.specs.Progress.{AnswersBeforeMemory}
use Rattle.times_bench.specs.declared.bench.BenchFault.{BenchFault}
use Rattle.times_bench.specs.declared.bench.BenchFault.TheVariants.{Read, Write, Memory}

-- between two reads: the answers to the lines that ended were written, and no call failed
pub record Stands (first now : Devices) (pending line taken : List ℕ) : Type 0 where
  pub consumed : Consumes first.left now.left taken
  pub answered : Appends first.written now.written (answers_of (ended_from [] taken))
  pub held : Holds (rest_from [] taken) line
  pub empty : pending ≡ []
  pub no_read_failed : now.read_failed ≡ false
  pub no_write_failed : now.write_failed ≡ false

-- the input is at its end, and the answers to all of its lines were written
pub record Completes (first now : Devices) : Type 0 where
  pub none_left : IfSome first.left (λ _. now.left ≡ Some [])
  pub answered : IfSome first.left (λ input. Appends first.written now.written (answers_of (lines_of input)))
  pub no_read_failed : now.read_failed ≡ false
  pub no_write_failed : now.write_failed ≡ false

-- a read failed, and the answers to the lines that were read whole were written
pub record StopsAtRead (first now : Devices) : Type 0 where
  pub read_failed : (now.read_failed ≡ true) ⊎ IfSome first.left (λ input. 2 ^ 64 - 1 ≤ length input)
  pub answered : (taken : List ℕ) × Consumes first.left now.left taken
      × Appends first.written now.written (answers_of (whole_lines_of taken))
  pub no_write_failed : now.write_failed ≡ false

-- a write failed, and a beginning of the answers was written
pub record StopsAtWrite (first now : Devices) : Type 0 where
  pub write_failed : now.write_failed ≡ true
  pub answered : IfSome first.left (λ input. AppendsBeginning first.written now.written (answers_of (lines_of input)))
  pub no_read_failed : now.read_failed ≡ false

-- there was no memory for a line, and the answers to the lines before it were written
pub record StopsForMemory (first now : Devices) : Type 0 where
  pub answered : IfSome first.left (λ input. AnswersBeforeMemory first.written now.written (lines_of input))
  pub no_read_failed : now.read_failed ≡ false
  pub no_write_failed : now.write_failed ≡ false

-- the reader and the writer after the fault that ended the work
abbrev pub Stops : BenchFault → Devices → Devices → Type 0
Stops Read first now = StopsAtRead first now
Stops Write first now = StopsAtWrite first now
Stops Memory first now = StopsForMemory first now

-- after the bytes that were read, more were read and answered, none is left, or a fault ended the work
abbrev pub Turns : Result ℕ BenchFault → Devices → Devices → List ℕ → List ℕ → List ℕ → Type 0
Turns (Ok zero) first now pending line taken = Completes first now
Turns (Ok (suc more)) first now pending line taken =
    (longer : List ℕ) × (length taken < length longer) × Stands first now pending line longer
Turns (Err fault) first now pending line taken = Stops fault first now
