-- The lines whose wall clocks a time zone shows twice or never.
use Rattle.std.specs.Prelude.{ℕ, ◌+◌, ◌==◌, List, [], ◌++◌, codes, decimal, if◌then◌else◌, Option, Some, None}
use Rattle.log_zones.specs.declared.showings.Showing.{Showing}
use Rattle.log_zones.specs.declared.showings.Showing.TheVariants.{Once, Twice, Never}
use Rattle.stamps.specs.Changes.{at_most}
use Rattle.stamps.specs.declared.clock_tallies.ClockTally.{ClockTally}
use Rattle.stamps.specs.declared.clock_tallies.Skip.{Skip}

-- no lines
abbrev pub no_clocks : ClockTally
no_clocks = record { twice = 0; first_twice = None; skipped = 0; first_skipped = None }

-- the first of the lines, which is this one if there is none before
abbrev pub first_or : Option ℕ → ℕ → Option ℕ
first_or (Some first) line = Some first
first_or None line = Some line

abbrev pub skip_or : Option Skip → Skip → Option Skip
skip_or (Some first) skip = Some first
skip_or None skip = Some skip

-- one line more whose wall clock is shown twice, or skipped
abbrev pub twice_after : ClockTally → ℕ → ClockTally
twice_after tally line = record tally { twice = at_most (tally.twice + 1); first_twice = first_or tally.first_twice line }

abbrev pub skipped_after : ClockTally → Skip → ClockTally
skipped_after tally skip = record tally { skipped = at_most (tally.skipped + 1); first_skipped = skip_or tally.first_skipped skip }

-- one line more, by how often clocks show its wall clock, if it has one
abbrev pub clocks_after : ClockTally → ℕ → Option Showing → ClockTally
clocks_after tally line None = tally
clocks_after tally line (Some Once) = tally
clocks_after tally line (Some Twice) = twice_after tally line
clocks_after tally line (Some (Never start end)) = skipped_after tally (record { line = line; start = start; end = end })

-- ---- what is told of them

-- the only line, or the number of several
abbrev pub lines_text : ℕ → ℕ → List ℕ
lines_text count line =
    if count == 1 then codes "line " ++ decimal line ++ codes " has a time" else decimal count ++ codes " lines have times"

-- the first of several
abbrev pub first_of_several : ℕ → ℕ → List ℕ
first_of_several count line = if count == 1 then [] else codes ", the first is line " ++ decimal line
