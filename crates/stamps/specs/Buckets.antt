-- The buckets of lines: minutes, hours or days of the local clock at an offset.
use Rattle.std.specs.Prelude.{ℕ, Bool, true, false, List, ◌++◌, codes, decimal, ℤ, Option}
use Rattle.std.specs.Option.{option_and_then}
use Rattle.calendar_values.specs.Clock.{nanos_per_day, nanos_per_hour, nanos_per_minute}
use Rattle.plain_times.specs.Sums.{wall_clock_if_any}
use Rattle.offset_times.specs.Local.{instant_of, local_multiple_below, shown_at, wall_at}
use Rattle.line_counts.specs.Counting.{Counting, most}
use Rattle.line_counts.specs.Steps.{step_of}
use Rattle.stamps.specs.Changes.{choice_after, first_choice, reader_by}
use Rattle.stamps.specs.LineInstants.{line_instant}
use Rattle.stamps.specs.Notes.{text_or_unix}
use Rattle.stamps.specs.Styles.{text_in}
use Rattle.stamps.specs.declared.changes.Choice.{Choice}
use Rattle.stamps.specs.declared.counts.Clock.{Clock}
use Rattle.stamps.specs.declared.counts.ClockBuckets.{ClockBuckets}
use Rattle.stamps.specs.declared.counts.Unit.{Unit}
use Rattle.stamps.specs.declared.counts.Unit.TheVariants.{Minute, Hour, Day}
use Rattle.stamps.specs.declared.task.Style.TheVariants.{At}

-- the nanoseconds of a unit
abbrev pub unit_nanos : Unit → ℕ
unit_nanos Minute = nanos_per_minute
unit_nanos Hour = nanos_per_hour
unit_nanos Day = nanos_per_day

-- the instant at which the unit of a wall clock starts, if it is in the range
abbrev pub start_of : Clock → ℤ → Option ℤ
start_of clock wall = wall_clock_if_any (instant_of (local_multiple_below (unit_nanos clock.unit) (wall_at wall clock.offset)))

-- the bucket of an instant: its wall clock at the offset, truncated to the unit, if both are in the range
unfoldable pub bucket_of : Clock → ℤ → Option ℤ
bucket_of clock i = option_and_then (start_of clock) (wall_clock_if_any (shown_at i clock.offset))

-- the bucket after a bucket
abbrev pub next_bucket : Clock → ℤ → ℤ
next_bucket clock = step_of (unit_nanos clock.unit)

-- the text of a row: the start of the bucket at the offset, a space and the number of lines
abbrev pub row_text : Clock → ℤ → ℕ → List ℕ
row_text clock start count = text_or_unix (text_in (At clock.offset) start) start ++ codes " " ++ decimal count ++ codes "\n"

-- the most buckets without lines one after another that have rows: 10,000, or all
abbrev pub most_empty : Bool → ℕ
most_empty true = most
most_empty false = 10_000

-- the text in place of the rows of this number of buckets without lines
abbrev pub text_in_place : ℕ → List ℕ
text_in_place count = codes "... " ++ decimal count ++ codes " rows of 0\n"

-- how lines are counted
abbrev pub counting : ClockBuckets → Counting Choice
counting buckets = record {
  memory = first_choice;
  instant = λ choice. line_instant (reader_by buckets.anew choice.own buckets.reader);
  after = choice_after buckets.anew;
  bucket = bucket_of buckets.clock;
  next = next_bucket buckets.clock;
  row = row_text buckets.clock;
  most_empty = most_empty buckets.shows_all;
  in_place = text_in_place;
}
