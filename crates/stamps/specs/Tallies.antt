-- The lines of an input that have no stamp, and what is told of them.
use Rattle.std.specs.Prelude.{ℕ, ◌==◌, List, [], ◌∷◌, ◌++◌, map, codes, decimal, if◌then◌else◌, Option, Some, None, Result}
use Rattle.std.specs.List.{zip}
use Rattle.line_devices.specs.Lines.{lines_of}
use Rattle.line_devices.specs.StampTallies.{is_poor, tally_of_kinds}
use Rattle.line_devices.specs.declared.stamp_tallies.LineKind.{LineKind}
use Rattle.line_devices.specs.declared.stamp_tallies.StampTally.{StampTally}
use Rattle.stamps.specs.Decisions.{first_state, line_kind, stamp_after, state_after}
use Rattle.stamps.specs.declared.decide.State.{State}
use Rattle.stamps.specs.declared.readers.LineRefusal.{LineRefusal}
use Rattle.stamps.specs.declared.readers.LineStamp.{LineStamp}
use Rattle.stamps.specs.declared.task.Task.{Task}

-- the kinds of lines, by their stamps
abbrev pub kinds_of : List (List ℕ) → List (Result LineStamp LineRefusal) → List LineKind
kinds_of lines stamps = map (λ line. line_kind line.0 line.1) (zip lines stamps)

-- the stamps of lines, each by the state after the lines before it
unfoldable pub stamps_from : Task → State → List (List ℕ) → List (Result LineStamp LineRefusal)
stamps_from task state [] = []
stamps_from task state (line ∷ lines) = stamp_after task state line ∷ stamps_from task (state_after task state line) lines

-- the tally of an input: its lines, and those of them that have no stamp
unfoldable pub tally_of : Task → List ℕ → StampTally
tally_of task input = tally_of_kinds (kinds_of (lines_of input) (stamps_from task (first_state task) (lines_of input)))

-- ---- what is told of it

-- the number of lines without a stamp, and that of all lines with text
abbrev pub count_text : StampTally → List ℕ
count_text tally =
    if tally.missing == 0 then codes "no line has a stamp" else decimal tally.missing ++ codes " of " ++ decimal tally.texts

-- the only line without a stamp, and the first of several
abbrev pub only_text : ℕ → List ℕ
only_text line = codes " lines has no stamp" ++ codes ": line " ++ decimal line

abbrev pub first_of_more : ℕ → List ℕ
first_of_more line = codes " lines have no stamp" ++ codes ", the first is line " ++ decimal line

-- the first line without a stamp, of so many
abbrev pub first_text : ℕ → Option ℕ → List ℕ
first_text missing None = []
first_text missing (Some line) = if missing == 1 then only_text line else first_of_more line

-- one line that continues another, and several
abbrev pub one_more_text : List ℕ
one_more_text = codes ", and 1 line" ++ codes " continues another"

abbrev pub many_text : ℕ → List ℕ
many_text continued = codes ", and " ++ decimal continued ++ codes " lines" ++ codes " continue others"

-- the number of lines that continue others
abbrev pub more_text : ℕ → List ℕ
more_text continued = if continued == 0 then [] else (if continued == 1 then one_more_text else many_text continued)

-- a long line without a stamp, or the number of several
abbrev pub long_text : ℕ → ℕ → List ℕ
long_text count line =
    if count == 1 then codes "line " ++ decimal line ++ codes " has no stamp in its" else decimal count ++ codes " lines have no stamp" ++ codes " in their"

-- the first of several long lines without a stamp
abbrev pub long_first_text : ℕ → ℕ → List ℕ
long_first_text count line = if count == 1 then [] else codes ", the first is line " ++ decimal line

-- the exit status by the tally of an input: 1 if no line has a stamp, or more than half of the lines with text have none
abbrev pub tally_status : StampTally → ℕ
tally_status tally = if is_poor tally then 1 else 0
