-- The reader and the writer while a program counts an input, block by block.
use Rattle.std.specs.Prelude.{◌≡◌, ℕ, ◌-◌, ◌^◌, ◌≤◌, ◌⊎◌, Bool, true, false, List, [], length, Some, Result, Ok, Err, IfSome}
use Rattle.std.specs.Io.KnownBytes.{Appends, Consumes}
use Rattle.line_devices.specs.Device.{Devices}
use Rattle.line_counts.specs.Counting.{Counting}
use Rattle.line_counts.specs.Counts.{count_open}
use Rattle.line_counts.specs.Progress.{Completes, Ends, Stands}
use Rattle.line_counts.specs.declared.lines.Work.{Work}
use Rattle.line_counts.specs.declared.tallies.CountFault.{CountFault}
use Rattle.line_counts.specs.declared.tallies.CountFault.TheVariants.{Read, Write, Missing, Back}
use Rattle.line_counts.specs.declared.tallies.Tally.{Tally}

-- between two reads: the rows that the bytes which were read end were written, and no call failed
pub record GoesOn {M : Type 0} (counting : Counting M) (is_strict : Bool) (first now : Devices) (pending : List ℕ) (work : Work M) (taken : List ℕ) : Type 0
  where
    pub consumed : Consumes first.left now.left taken
    pub stands : Stands counting is_strict first.written now.written pending work taken
    pub empty : pending ≡ []
    pub no_read_failed : now.read_failed ≡ false
    pub no_write_failed : now.write_failed ≡ false

-- the input is at its end, its rows were written, and the tally is that of its lines
pub record EndsWell {M : Type 0} (counting : Counting M) (is_strict : Bool) (first now : Devices) (tally : Tally M) : Type 0 where
  pub none_left : IfSome first.left (λ _. now.left ≡ Some [])
  pub completes : IfSome first.left (λ input. Completes counting is_strict first.written now.written input tally)
  pub no_read_failed : now.read_failed ≡ false
  pub no_write_failed : now.write_failed ≡ false

-- a read failed, and the rows that the bytes which were read end were written
pub record StopsAtRead {M : Type 0} (counting : Counting M) (is_strict : Bool) (first now : Devices) : Type 0 where
  pub read_failed : (now.read_failed ≡ true) ⊎ IfSome first.left (λ input. 2 ^ 64 - 1 ≤ length input)
  pub written : (taken : List ℕ) × Consumes first.left now.left taken × Appends first.written now.written (count_open counting is_strict taken).text
  pub no_write_failed : now.write_failed ≡ false

-- a write failed, or a line ended the run
pub record StopsAt {M : Type 0} (counting : Counting M) (is_strict : Bool) (first now : Devices) (fault : CountFault) (mark : Bool) : Type 0 where
  pub ends : IfSome first.left (λ input. Ends counting is_strict first.written now.written fault input)
  pub mark_is : now.write_failed ≡ mark
  pub no_read_failed : now.read_failed ≡ false

-- the reader and the writer after the end of the work
abbrev pub Finishes : {M : Type 0} → Result (Tally M) CountFault → Counting M → Bool → Devices → Devices → Type 0
Finishes (Ok tally) counting is_strict first now = EndsWell counting is_strict first now tally
Finishes (Err Read) counting is_strict first now = StopsAtRead counting is_strict first now
Finishes (Err Write) counting is_strict first now = StopsAt counting is_strict first now Write true
Finishes (Err (Missing line)) counting is_strict first now = StopsAt counting is_strict first now (Missing line) false
Finishes (Err (Back line)) counting is_strict first now = StopsAt counting is_strict first now (Back line) false
