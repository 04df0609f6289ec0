-- The decision on a line, by its stamp.
use Rattle.std.specs.Prelude.{ℕ, ◌+◌, ◌-◌, ◌^◌, ◌==◌, ◌&&◌, Bool, true, false, not}
use Rattle.std.specs.Prelude.{nat_lt, min, List, [], if◌then◌else◌, ℤ, ◌-ℤ◌, int_lt, Option, Some, None, is_none}
use Rattle.std.specs.Prelude.{Result, Ok, Err}
use Rattle.std.specs.Result.{is_ok}
use Rattle.line_devices.specs.StampTallies.{first_tally, kind_of, tally_after}
use Rattle.line_devices.specs.declared.stamp_tallies.LineKind.{LineKind}
use Rattle.stamps.specs.Changes.{choice_after, first_choice, reader_by}
use Rattle.stamps.specs.Readers.{line_stamp}
use Rattle.stamps.specs.StampTexts.{stamp_text}
use Rattle.stamps.specs.declared.decide.Decision.{Decision}
use Rattle.stamps.specs.declared.decide.Decision.TheVariants.{Keep, Skip, Stop, Tell}
use Rattle.stamps.specs.declared.decide.State.{State}
use Rattle.stamps.specs.declared.finding.Cause.{Cause}
use Rattle.stamps.specs.declared.finding.Cause.TheVariants.{Missing, Refused, Unread, NoText, Zone, Earlier}
use Rattle.stamps.specs.declared.finding.Finding.{Finding}
use Rattle.stamps.specs.declared.finding.Finding.TheVariants.{Line, NoStamp}
use Rattle.stamps.specs.declared.notes.Note.TheVariants.{Fault, Gap}
use Rattle.stamps.specs.declared.readers.LineRefusal.{LineRefusal}
use Rattle.stamps.specs.declared.readers.LineRefusal.TheVariants.{Absent, OutOfRange, Part}
use Rattle.stamps.specs.declared.readers.LineStamp.{LineStamp}
use Rattle.stamps.specs.declared.readers.Reader.{Reader}
use Rattle.stamps.specs.declared.task.Action.{Action}
use Rattle.stamps.specs.declared.task.Action.TheVariants.{Write, Check, CheckAll, Gaps, Since, Until, Between}
use Rattle.stamps.specs.declared.task.Style.{Style}
use Rattle.stamps.specs.declared.task.Task.{Task}

-- the number of lines with one more, up to the greatest count
abbrev pub one_more : ℕ → ℕ
one_more lines = min (lines + 1) (2 ^ 64 - 1)

-- the cause for the error of a stamp
abbrev pub cause_of : LineRefusal → Cause
cause_of Absent = Missing
cause_of (OutOfRange component) = Refused component
cause_of (Part refusal) = Unread refusal

-- the decision on a line that is not rewritten: keep it as it is, unless the task is strict
abbrev pub as_it_is : Bool → ℕ → Cause → Decision
as_it_is true line cause = Stop (Line line cause)
as_it_is false line cause = Keep 0 [] 0

-- the line with this text in place of its stamp, or not rewritten if there is no text
abbrev pub with_text : Bool → ℕ → LineStamp → Option (List ℕ) → Decision
with_text is_strict line stamp (Some text) = Keep stamp.start text stamp.length
with_text is_strict line stamp None = as_it_is is_strict line NoText

-- the line with its stamp written in a style, unless the task is strict and a zone in brackets follows the stamp
abbrev pub in_place : Style → Bool → ℕ → LineStamp → Decision
in_place style is_strict line stamp =
    if is_strict && stamp.is_zoned then Stop (Line line Zone) else with_text is_strict line stamp (stamp_text style stamp)

-- the line with its stamp written in a style
abbrev pub rewritten : Style → Bool → ℕ → Result LineStamp LineRefusal → Decision
rewritten style is_strict line (Ok stamp) = in_place style is_strict line stamp
rewritten style is_strict line (Err refusal) = as_it_is is_strict line (cause_of refusal)

-- whether an instant is earlier than the last one, if there was one
abbrev pub is_earlier : ℤ → Option ℤ → Bool
is_earlier i (Some last) = int_lt i last
is_earlier i None = false

-- stop the run at a line that fails the test, and skip any other
abbrev pub stop_if : Bool → ℕ → Cause → Decision
stop_if fails line cause = if fails then Stop (Line line cause) else Skip

-- the decision of `check`: stop at a stamp that is out of range or earlier, and at a missing one if the task is strict
abbrev pub check_line : Bool → ℕ → Option ℤ → Result LineStamp LineRefusal → Decision
check_line is_strict line last (Ok stamp) = stop_if (is_earlier stamp.instant last) line Earlier
check_line is_strict line last (Err Absent) = stop_if is_strict line Missing
check_line is_strict line last (Err (OutOfRange component)) = stop_if true line (Refused component)
check_line is_strict line last (Err (Part refusal)) = stop_if true line (Unread refusal)

-- a note on what would end the run
abbrev pub as_note : Decision → Decision
as_note (Keep start text count) = Keep start text count
as_note Skip = Skip
as_note (Tell note) = Tell note
as_note (Stop found) = Tell (Fault found)

-- a note on the time between two instants if that is more than the limit. If the task is strict, stop at an instant that is earlier
abbrev pub gap_after : ℤ → Bool → ℕ → ℤ → ℤ → Decision
gap_after limit is_strict line before i =
    if is_strict && int_lt i before then Stop (Line line Earlier)
    else (if int_lt limit (i -ℤ before) then Tell (Gap line before i) else Skip)

-- the decision of `gaps`: a note on the time since the latest instant if that is more than the limit. If the task is strict, stop
-- at a line without a stamp
abbrev pub gap_line : ℤ → Bool → ℕ → Option ℤ → Result LineStamp LineRefusal → Decision
gap_line limit is_strict line (Some before) (Ok stamp) = gap_after limit is_strict line before stamp.instant
gap_line limit is_strict line None (Ok stamp) = Skip
gap_line limit is_strict line latest (Err refusal) = stop_if is_strict line (cause_of refusal)

-- keep the whole line, or skip it
abbrev pub going_on : Bool → Decision
going_on true = Keep 0 [] 0
going_on false = Skip

-- whether to keep a line: by its instant, or without one as the line before
abbrev pub goes_on : Action → Bool → Result LineStamp LineRefusal → Bool
goes_on (Since bound) was (Ok stamp) = not (int_lt stamp.instant bound)
goes_on (Until bound) was (Ok stamp) = int_lt stamp.instant bound
goes_on (Between from to) was (Ok stamp) = not (int_lt stamp.instant from) && int_lt stamp.instant to
goes_on (Write style is_strict) was (Ok stamp) = was
goes_on (Check is_strict) was (Ok stamp) = was
goes_on (CheckAll is_strict) was (Ok stamp) = was
goes_on (Gaps limit is_strict) was (Ok stamp) = was
goes_on action was (Err refusal) = was

-- the last instant
abbrev pub last_of : Option ℤ → Result LineStamp LineRefusal → Option ℤ
last_of last (Ok stamp) = Some stamp.instant
last_of last (Err refusal) = last

-- the later of two instants, of which there may be one
abbrev pub later_of : Option ℤ → ℤ → ℤ
later_of (Some before) i = if int_lt i before then before else i
later_of None i = i

-- the latest instant, if the task asks for gaps
abbrev pub latest_of : Action → Option ℤ → Result LineStamp LineRefusal → Option ℤ
latest_of (Gaps limit is_strict) latest (Ok stamp) = Some (later_of latest stamp.instant)
latest_of (Write style is_strict) latest (Ok stamp) = latest
latest_of (Check is_strict) latest (Ok stamp) = latest
latest_of (CheckAll is_strict) latest (Ok stamp) = latest
latest_of (Since bound) latest (Ok stamp) = latest
latest_of (Until bound) latest (Ok stamp) = latest
latest_of (Between from to) latest (Ok stamp) = latest
latest_of action latest (Err refusal) = latest

-- the kind of a line with this stamp
abbrev pub line_kind : List ℕ → Result LineStamp LineRefusal → LineKind
line_kind line stamp = kind_of line (is_ok stamp)

-- the state after one more line of this kind with this stamp
abbrev pub state_by : Task → State → List ℕ → LineKind → Result LineStamp LineRefusal → State
state_by task state line kind stamp = record {
  lines = one_more state.lines;
  last = last_of state.last stamp;
  latest = latest_of task.action state.latest stamp;
  goes_on = goes_on task.action state.goes_on stamp;
  tally = tally_after state.tally (one_more state.lines) kind;
  choice = choice_after task.anew state.choice (one_more state.lines) kind line;
}

-- the decision on the line with this stamp, by the last and the latest instant before it, and by the state after it
abbrev pub decision_by : Action → Option ℤ → Option ℤ → State → Result LineStamp LineRefusal → Decision
decision_by (Write style is_strict) last latest after stamp = rewritten style is_strict after.lines stamp
decision_by (Check is_strict) last latest after stamp = check_line is_strict after.lines last stamp
decision_by (CheckAll is_strict) last latest after stamp = as_note (check_line is_strict after.lines last stamp)
decision_by (Gaps limit is_strict) last latest after stamp = gap_line limit is_strict after.lines latest stamp
decision_by (Since bound) last latest after stamp = going_on after.goes_on
decision_by (Until bound) last latest after stamp = going_on after.goes_on
decision_by (Between from to) last latest after stamp = going_on after.goes_on

-- whether the next line is the first
abbrev pub is_first : State → Bool
is_first state = state.lines == 0

-- the stamp of a line after others: by the reader that they chose anew, or else the first one
abbrev pub stamp_after : Task → State → List ℕ → Result LineStamp LineRefusal
stamp_after task state line = line_stamp (reader_by task.anew state.choice.own task.reader) state.last (is_first state) line

-- the decision on a line
unfoldable pub decision_of : Task → State → List ℕ → Decision
decision_of task state line =
    let stamp = stamp_after task state line in
    decision_by task.action state.last state.latest (state_by task state line (line_kind line stamp) stamp) stamp

-- the state after this line
unfoldable pub state_after : Task → State → List ℕ → State
state_after task state line = let stamp = stamp_after task state line in state_by task state line (line_kind line stamp) stamp

-- whether to keep the lines before the first stamp: they count as earlier than every instant
abbrev pub goes_on_first : Action → Bool
goes_on_first (Until bound) = true
goes_on_first (Since bound) = false
goes_on_first (Between from to) = false
goes_on_first (Write style is_strict) = false
goes_on_first (Check is_strict) = false
goes_on_first (CheckAll is_strict) = false
goes_on_first (Gaps limit is_strict) = false

-- the state before the first line
abbrev pub first_state : Task → State
first_state task = record {
  lines = 0;
  last = None;
  latest = None;
  goes_on = goes_on_first task.action;
  tally = first_tally;
  choice = first_choice;
}

-- the finding of lines without any stamp
abbrev pub no_stamp : State → Option Finding
no_stamp state = if nat_lt 0 state.lines && is_none state.last then Some NoStamp else None

-- the finding at the end of the input: `check` found lines, and no stamp
abbrev pub finding_by : Action → State → Option Finding
finding_by (Check is_strict) state = no_stamp state
finding_by (CheckAll is_strict) state = no_stamp state
finding_by (Gaps limit is_strict) state = None
finding_by (Write style is_strict) state = None
finding_by (Since bound) state = None
finding_by (Until bound) state = None
finding_by (Between from to) state = None

abbrev pub finding_at_end : Task → State → Option Finding
finding_at_end task state = finding_by task.action state

-- the task of an action, by how stamps are read: words name their form
abbrev pub reading : Reader → Action → Task
reading reader action = record { action = action; reader = reader; anew = None }
