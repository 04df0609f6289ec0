-- The output for an input, and the finding that ends the run.
use Rattle.std.specs.Prelude.{ℕ, ◌+◌, nat_lt, List, [], ◌∷◌, ◌++◌, length, take, drop, if◌then◌else◌, Option, Some, None, Result, Ok, Err}
use Rattle.line_devices.specs.Lines.{pieces_of, whole_lines_of}
use Rattle.stamps.specs.Decisions.{decision_of, finding_at_end, first_state, state_after}
use Rattle.stamps.specs.LineStamps.{longest_head}
use Rattle.stamps.specs.declared.decide.Decision.{Decision}
use Rattle.stamps.specs.Notes.{note_text}
use Rattle.stamps.specs.declared.decide.Decision.TheVariants.{Keep, Skip, Stop, Tell}
use Rattle.stamps.specs.declared.decide.State.{State}
use Rattle.stamps.specs.declared.finding.Finding.{Finding}
use Rattle.stamps.specs.declared.task.Task.{Task}

-- the output, and the state after it or the finding that ended the run
pub record Run : Type 0 where
  pub text : List ℕ
  pub end : Result State Finding

abbrev pub run : List ℕ → Result State Finding → Run
run text end = record { text = text; end = end }

-- a run with a text before its output
abbrev pub behind : List ℕ → Run → Run
behind text next = run (text ++ next.text) next.end

-- one run after another
abbrev pub then_on : List ℕ → Result State Finding → (State → Run) → Run
then_on text (Ok state) next = behind text (next state)
then_on text (Err found) next = run text (Err found)

-- the output for a line, without its line feed: the text in place of some bytes after the first ones, or a note, which ends with a
-- line feed of its own
abbrev pub output_of : Decision → List ℕ → List ℕ
output_of (Keep start text count) line = take start line ++ (text ++ drop (start + count) line)
output_of Skip line = []
output_of (Tell note) line = note_text note
output_of (Stop found) line = []

-- the line feed of a line that is kept
abbrev pub line_feed : Decision → List ℕ
line_feed (Keep start text count) = 10 ∷ []
line_feed Skip = []
line_feed (Tell note) = []
line_feed (Stop found) = []

-- the state after a line, or the finding
abbrev pub known_after : Decision → State → Result State Finding
known_after (Keep start text count) state = Ok state
known_after Skip state = Ok state
known_after (Tell note) state = Ok state
known_after (Stop found) state = Err found

-- the run of a line that a line feed ends
unfoldable pub line_run : Task → State → List ℕ → Run
line_run task state line =
    let decision = decision_of task state line in run (output_of decision line ++ line_feed decision) (known_after decision (state_after task state line))

-- the state at the end of the input, or the finding if there is one
abbrev pub known_unless : Option Finding → State → Result State Finding
known_unless (Some found) state = Err found
known_unless None state = Ok state

-- the state at the end of the input, after its last line, or the finding
abbrev pub known_at_end : Task → Result State Finding → Result State Finding
known_at_end task (Ok state) = known_unless (finding_at_end task state) state
known_at_end task (Err found) = Err found

-- the run of the bytes after the last line feed, and of the end of the input
unfoldable pub last_run : Task → State → List ℕ → Run
last_run task state [] = run [] (known_at_end task (Ok state))
last_run task state (byte ∷ line) =
    let decision = decision_of task state (byte ∷ line) in
    run (output_of decision (byte ∷ line)) (known_at_end task (known_after decision (state_after task state (byte ∷ line))))

-- the run of lines, one after another
unfoldable pub lines_run : Task → State → List (List ℕ) → Run
lines_run task state [] = run [] (Ok state)
lines_run task state (line ∷ lines) =
    let first = line_run task state line in then_on first.text first.end (λ next. lines_run task next lines)

-- the last piece
abbrev pub last_of : List (List ℕ) → List ℕ
last_of [] = []
last_of (piece ∷ []) = piece
last_of (piece ∷ next ∷ pieces) = last_of (next ∷ pieces)

-- the run of an input: its lines, and the bytes after the last line feed
unfoldable pub input_run : Task → List ℕ → Run
input_run task input =
    let lines = lines_run task (first_state task) (whole_lines_of input) in
    then_on lines.text lines.end (λ state. last_run task state (last_of (pieces_of input)))

-- the run of a line that has not ended: the bytes that were read, if they decide on the line
abbrev pub begun_run : Task → State → List ℕ → Run
begun_run task state line =
    let decision = decision_of task state line in
    if nat_lt (length line) longest_head then run [] (Ok state)
    else run (output_of decision line) (known_after decision (state_after task state line))

-- the run of the bytes that were read, while more may follow
unfoldable pub open_run : Task → List ℕ → Run
open_run task taken =
    let lines = lines_run task (first_state task) (whole_lines_of taken) in
    then_on lines.text lines.end (λ state. begun_run task state (last_of (pieces_of taken)))
