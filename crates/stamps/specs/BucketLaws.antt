-- Laws of buckets. A function of `src/laws.rt` proves each of them.
use Rattle.std.specs.Prelude.{◌≡◌, ℤ, pos, ◌+ℤ◌, ◌*ℤ◌, ◌≤ℤ◌, ◌<ℤ◌, Some}
use Rattle.calendar_values.specs.WallClock.{IsWallClock}
use Rattle.offset_times.specs.Local.{shown_at}
use Rattle.stamps.specs.Buckets.{bucket_of, next_bucket, unit_nanos}
use Rattle.stamps.specs.declared.counts.Clock.{Clock}

-- a bucket has an instant: it starts no later, at a whole number of units of the local clock, and ends after it, where the next one starts.
-- The next one starts at the end of the range if it would start later
pub record HasInstant (clock : Clock) (i start : ℤ) : Type 0 where
  pub low : start ≤ℤ i
  pub high : i <ℤ (start +ℤ pos (unit_nanos clock.unit))
  pub next : IsWallClock (start +ℤ pos (unit_nanos clock.unit)) → next_bucket clock start ≡ start +ℤ pos (unit_nanos clock.unit)
  pub whole : (count : ℤ) × (shown_at start clock.offset ≡ count *ℤ pos (unit_nanos clock.unit))

-- the bucket of each instant has it
abbrev pub BucketsHaveTheirInstants : Type 0
BucketsHaveTheirInstants = (clock : Clock) (i start : ℤ) → bucket_of clock i ≡ Some start → HasInstant clock i start
