-- How the lines of the logs of a merge are read: each log by its own form, which is chosen anew where it changes.
use Rattle.std.specs.Prelude.{ℕ, Option, slice_get}
use Rattle.line_merges.specs.Instants.{LogReading}
use Rattle.stamps.specs.Changes.{choice_after, first_choice, reader_by}
use Rattle.stamps.specs.LineInstants.{anew_of, instant_by, other_of, reader_or}
use Rattle.stamps.specs.declared.changes.Anew.{Anew}
use Rattle.stamps.specs.declared.changes.Choice.{Choice}
use Rattle.stamps.specs.declared.instants.StampInstants.{StampInstants}
use Rattle.stamps.specs.declared.readers.Reader.{Reader}

-- how lines are read, first by a reader, and then by those that lines choose anew, if they do; and by another one where these do not read
-- a line
abbrev pub reading_by : Option Anew → Reader → Option Reader → LogReading Choice
reading_by anew first other = record {
  memory = first_choice;
  instant = λ choice. instant_by (reader_by anew choice.own first) other;
  after = choice_after anew;
}

-- how the lines of the log with a number are read
abbrev pub log_reading : StampInstants → ℕ → LogReading Choice
log_reading instants log =
    let found = slice_get instants.chosen.items log in reading_by (anew_of found) (reader_or instants.reader found) (other_of found)

-- what is known of each log before its first line
abbrev pub first_choices : ℕ → Choice
first_choices log = first_choice
