-- The rows that were sent for an input that arrives in parts, and the faults that may end the work.
use Rattle.std.specs.Prelude.{◌≡◌, ℕ, Bool, true, List, [], ◌++◌, Option, Result, Ok, Err, MatchResult, take}
use Rattle.std.specs.Io.KnownBytes.{Appends}
use Rattle.line_devices.specs.LineParts.{ended_from, rest_from}
use Rattle.line_devices.specs.Lines.{lines_of}
use Rattle.line_devices.specs.Writing.{AppendsBeginning, Sends}
use Rattle.line_counts.specs.Counting.{Counting}
use Rattle.line_counts.specs.Counts.{Counted, count_input, count_lines, outcome, first_tally}
use Rattle.line_counts.specs.Stamps.{stamp_tally}
use Rattle.line_counts.specs.declared.lines.Work.{Work}
use Rattle.line_counts.specs.declared.tallies.CountFault.{CountFault}
use Rattle.line_counts.specs.declared.tallies.CountFault.TheVariants.{Read, Write, Missing, Back}
use Rattle.line_counts.specs.declared.tallies.Tally.{Tally}

-- the mark after a fault: a failed write sets it
abbrev pub mark_of : CountFault → Bool → Bool
mark_of Write mark = true
mark_of Read mark = mark
mark_of (Missing line) mark = mark
mark_of (Back line) mark = mark

-- the mark after the work
abbrev pub mark_after : {T : Type 0} → Result T CountFault → Bool → Bool
mark_after (Ok done) mark = mark
mark_after (Err fault) mark = mark_of fault mark

-- after a fault that ended the work: a beginning of a text was written and not all, or all of it and the fault is the one of the text
abbrev pub Falls : {M : Type 0} → CountFault → Counted M → Option (List ℕ) → Option (List ℕ) → List ℕ → Type 0
Falls Write run old new before = AppendsBeginning old new (before ++ run.text)
Falls Read run old new before = ⊥
Falls (Missing line) run old new before = Appends old new (before ++ run.text) × (run.end ≡ Err (Missing line))
Falls (Back line) run old new before = Appends old new (before ++ run.text) × (run.end ≡ Err (Back line))

-- a line was counted, and its text sent
abbrev pub Takes : {M : Type 0} → Result Unit CountFault → Counted M → Tally M → Option (List ℕ) → Option (List ℕ) → List ℕ → List ℕ → Type 0
Takes result run tally old new was_pending pending =
    MatchResult result (λ _. Sends old new pending (was_pending ++ run.text) × (run.end ≡ Ok tally)) (λ fault. Falls fault run old new was_pending)

-- the lines that ended were counted, and the beginning of the last one is kept
pub record Stands {M : Type 0} (counting : Counting M) (is_strict : Bool) (base now : Option (List ℕ)) (pending : List ℕ) (work : Work M) (taken : List ℕ) :
    Type 0 where
  pub text : List ℕ
  pub lines : count_lines counting is_strict (first_tally counting) (ended_from [] taken) ≡ outcome text (Ok work.tally)
  pub head : work.head ≡ take 65536 (rest_from [] taken)
  pub sent : Sends base now pending text

-- the output for an input was written: a beginning and not all, or all of it up to the line that ended the run
abbrev pub Ends : {M : Type 0} → Counting M → Bool → Option (List ℕ) → Option (List ℕ) → CountFault → List ℕ → Type 0
Ends counting is_strict base now fault input = Falls fault (count_input counting is_strict input) base now []

-- all lines of an input were counted, and the rows that they end were sent
pub record AllSent {M : Type 0} (counting : Counting M) (is_strict : Bool) (base now : Option (List ℕ)) (pending : List ℕ) (tally : Tally M) (input : List
    ℕ) : Type 0 where
  pub text : List ℕ
  pub lines : count_lines counting is_strict (first_tally counting) (lines_of input) ≡ outcome text (Ok tally)
  pub sent : Sends base now pending text

-- all of the output for an input was written, no line ended the run, and the lines without a stamp are those of the input
pub record Completes {M : Type 0} (counting : Counting M) (is_strict : Bool) (base now : Option (List ℕ)) (input : List ℕ) (tally : Tally M) : Type 0 where
  pub written : Appends base now (count_input counting is_strict input).text
  pub well : (count_input counting is_strict input).end ≡ Ok tally
  pub stamps : tally.stamps ≡ stamp_tally counting input
