-- The output that was sent for an input that arrives in parts, and the faults that may end the work.
use Rattle.std.specs.Prelude.{◌≡◌, ◌⊎◌, ℕ, ◌≤◌, ◌<◌, Bool, true, false, List, [], ◌++◌, length, Option, Result, Ok, Err, MatchResult}
use Rattle.std.specs.Io.KnownBytes.{Appends}
use Rattle.line_devices.specs.LineParts.{ended_from, rest_from}
use Rattle.line_devices.specs.Writing.{AppendsBeginning, Sends}
use Rattle.stamps.specs.Decisions.{decision_of, first_state, state_after}
use Rattle.stamps.specs.LineStamps.{longest_head}
use Rattle.stamps.specs.Runs.{run, output_of, known_after, lines_run, input_run}
use Rattle.stamps.specs.Tallies.{tally_of}
use Rattle.stamps.specs.declared.decide.Decision.{Decision}
use Rattle.stamps.specs.declared.decide.Decision.TheVariants.{Keep, Skip, Stop, Tell}
use Rattle.stamps.specs.declared.decide.State.{State}
use Rattle.stamps.specs.declared.finding.Finding.{Finding}
use Rattle.stamps.specs.declared.lines.LineFault.{LineFault}
use Rattle.stamps.specs.declared.lines.LineFault.TheVariants.{Write, Found}
use Rattle.stamps.specs.declared.lines.Progress.{Progress}
use Rattle.stamps.specs.declared.lines.Progress.TheVariants.{Kept, Sent, Skipped}
use Rattle.stamps.specs.declared.lines.Work.{Work}
use Rattle.stamps.specs.declared.task.Task.{Task}

-- the condition after a failed write, and the condition after a line that ended the run
abbrev pub AtFault : LineFault → Type 0 → (Finding → Type 0) → Type 0
AtFault Write Cut Stopped = Cut
AtFault (Found found) Cut Stopped = Stopped found

-- the mark after the work: a failed write sets it
abbrev pub mark_after : {T : Type 0} → Result T LineFault → Bool → Bool
mark_after (Ok done) mark = mark
mark_after (Err Write) mark = true
mark_after (Err (Found found)) mark = mark

-- whether nothing of a line was sent, and its beginning is kept
abbrev pub is_kept : Progress → Bool
is_kept Kept = true
is_kept Sent = false
is_kept Skipped = false

-- the progress of a line after its decision
abbrev pub progress_of : Decision → Progress
progress_of (Keep start text count) = Sent
progress_of Skip = Skipped
progress_of (Tell note) = Skipped
progress_of (Stop found) = Skipped

-- the bytes to send, of more bytes of a line
abbrev pub to_send : Progress → List ℕ → List ℕ
to_send Kept bytes = []
to_send Sent bytes = bytes
to_send Skipped bytes = []

-- the pending bytes were written, or a beginning of them
abbrev pub WritesPending : {T : Type 0} → Result T LineFault → Option (List ℕ) → Option (List ℕ) → List ℕ → Type 0
WritesPending result old new pending =
    MatchResult result (λ _. Appends old new pending) (λ fault. AtFault fault (AppendsBeginning old new pending) (λ _. ⊥))

-- the bytes were sent after the pending ones, or a beginning of both was written
abbrev pub Passes : {T : Type 0} → Result T LineFault → Option (List ℕ) → Option (List ℕ) → List ℕ → List ℕ → Type 0
Passes result old new pending bytes =
    MatchResult result (λ _. Sends old new pending bytes) (λ fault. AtFault fault (AppendsBeginning old new bytes) (λ _. ⊥))

-- a line to keep was sent, or a beginning of it was written
abbrev pub KeepsLine : Result Progress LineFault → Option (List ℕ) → Option (List ℕ) → List ℕ → List ℕ → Type 0
KeepsLine result old new pending bytes =
    MatchResult result (λ progress. Sends old new pending bytes × (progress ≡ Sent))
    (λ fault. AtFault fault (AppendsBeginning old new bytes) (λ _. ⊥))

-- a note was sent, or a beginning of it was written
abbrev pub TellsNote : Result Progress LineFault → Option (List ℕ) → Option (List ℕ) → List ℕ → List ℕ → Type 0
TellsNote result old new pending bytes =
    MatchResult result (λ progress. Sends old new pending bytes × (progress ≡ Skipped))
    (λ fault. AtFault fault (AppendsBeginning old new bytes) (λ _. ⊥))

-- the beginning of a line decided on it, and its output was sent. Or the line ended the run, and the pending bytes were written
abbrev pub Begins : Result Progress LineFault → Decision → State → Option (List ℕ) → Option (List ℕ) → List ℕ → List ℕ → List ℕ → Type 0
Begins result decision known old new was_pending pending line =
    MatchResult result
    (λ progress. Sends old new pending (was_pending ++ output_of decision line) × (progress ≡ progress_of decision) × (known_after decision known ≡ Ok known))
    (λ fault. AtFault fault (AppendsBeginning old new (was_pending ++ output_of decision line))
    (λ found. Appends old new was_pending × (decision ≡ Stop found)))

-- the lines that ended were sent, and the beginning of the last one is kept
pub record Keeps (task : Task) (base now : Option (List ℕ)) (pending : List ℕ) (work : Work) (taken : List ℕ) : Type 0 where
  pub text : List ℕ
  pub lines : lines_run task (first_state task) (ended_from [] taken) ≡ run text (Ok work.state)
  pub progress : work.progress ≡ Kept
  pub head : work.head ≡ rest_from [] taken
  pub short : length (rest_from [] taken) < longest_head
  pub sent : Sends base now pending text

-- the lines that ended were sent, and the last one is decided, and sent as far as it was read
pub record Decided (task : Task) (base now : Option (List ℕ)) (pending : List ℕ) (work : Work) (taken : List ℕ) : Type 0 where
  pub text : List ℕ
  pub before : State
  pub lines : lines_run task (first_state task) (ended_from [] taken) ≡ run text (Ok before)
  pub state : work.state ≡ state_after task before (rest_from [] taken)
  pub known : known_after (decision_of task before (rest_from [] taken)) work.state ≡ Ok work.state
  pub progress : work.progress ≡ progress_of (decision_of task before (rest_from [] taken))
  pub sent : Sends base now pending (text ++ output_of (decision_of task before (rest_from [] taken)) (rest_from [] taken))

-- the output was sent as far as the bytes that were read decide it
abbrev pub Stands : Task → Option (List ℕ) → Option (List ℕ) → List ℕ → Work → List ℕ → Type 0
Stands task base now pending work taken =
    Keeps task base now pending work taken
    ⊎ (Decided task base now pending work taken × (longest_head ≤ length (rest_from [] taken)))

-- no bytes follow the last line feed, or their line is decided
abbrev pub Settled : Task → Option (List ℕ) → Option (List ℕ) → List ℕ → Work → List ℕ → Type 0
Settled task base now pending work taken =
    (Keeps task base now pending work taken × (rest_from [] taken ≡ []))
    ⊎ (Decided task base now pending work taken × (0 < length (rest_from [] taken)))

-- the output for an input was written: a beginning and not all, or all of it up to the line that ended the run
abbrev pub Ends : Task → Option (List ℕ) → Option (List ℕ) → LineFault → List ℕ → Type 0
Ends task base now Write input = AppendsBeginning base now (input_run task input).text
Ends task base now (Found found) input =
    Appends base now (input_run task input).text × ((input_run task input).end ≡ Err found)

-- all of the output for an input was written, no line ended the run, and the tally is that of the input
pub record Completes (task : Task) (base now : Option (List ℕ)) (work : Work) (input : List ℕ) : Type 0 where
  pub written : Appends base now (input_run task input).text
  pub end : (input_run task input).end ≡ Ok work.state
  pub tally : work.state.tally ≡ tally_of task input
