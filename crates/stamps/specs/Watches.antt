-- The lines of a log that are counted by how often the clocks of a zone show their wall clocks.
use Rattle.std.specs.Prelude.{◌≡◌, ◌||◌, Bool, false, is_some, List, ℕ, Option, Some, None}
use Rattle.log_zones.specs.declared.showings.Showing.{Showing}
use Rattle.stamps.specs.Changes.{reader_by}
use Rattle.stamps.specs.ClockTallies.{clocks_after}
use Rattle.stamps.specs.Decisions.{is_first, one_more}
use Rattle.stamps.specs.LineStamps.{has_mark, mark_length}
use Rattle.stamps.specs.Showings.{IsLineShowing}
use Rattle.stamps.specs.declared.changes.Anew.{Anew}
use Rattle.stamps.specs.declared.clock_tallies.ClockTally.{ClockTally}
use Rattle.stamps.specs.declared.decide.State.{State}
use Rattle.stamps.specs.declared.readers.Reader.{Reader}
use Rattle.stamps.specs.declared.readers.Reader.TheVariants.{Plain, Formed}
use Rattle.stamps.specs.declared.task.Task.{Task}

-- whether readers that lines choose anew have a zone
abbrev pub has_zone_anew : Option Anew → Bool
has_zone_anew (Some anew) = is_some anew.zone
has_zone_anew None = false

-- whether the first reader of a log has a zone, or those that its lines choose anew
abbrev pub has_zone : Reader → Option Anew → Bool
has_zone Plain anew = has_zone_anew anew
has_zone (Formed by) anew = is_some by.zone || has_zone_anew anew

-- the tally counts a line after others by how often clocks show its wall clock
abbrev pub IsCounted : Task → State → List ℕ → ClockTally → ClockTally → Type 0
IsCounted task state line before after =
    (showing : Option Showing)
    × IsLineShowing (reader_by task.anew state.choice.own task.reader) state.last (mark_length (has_mark (is_first state) line)) line showing
    × (after ≡ clocks_after before (one_more state.lines) showing)
