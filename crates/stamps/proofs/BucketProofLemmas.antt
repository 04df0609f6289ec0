-- The bucket of an instant, by what the local clock shows.
use Rattle.std.proofs.Common.{◌≡◌, ℤ, Option, Some, None, ap}
use Rattle.std.specs.Option.{option_and_then}
use Rattle.calendar_values.specs.WallClock.{SomeInRange}
use Rattle.plain_times.specs.SumLemmas.{wall_clock_if_any-SomeIff, wall_clock_if_any-in}
use Rattle.offset_times.specs.Local.{Local, ShownAt, instant_of, local_multiple_below, shown_at}
use Rattle.stamps.specs.Buckets.{bucket_of, start_of, unit_nanos}
use Rattle.stamps.specs.declared.counts.Clock.{Clock}

pub bucket_shown : (clock : Clock) (i : ℤ) (shown : Local) (r : Option ℤ) → ShownAt (Some shown) i clock.offset
    → SomeInRange r (instant_of (local_multiple_below (unit_nanos clock.unit) shown)) → r ≡ bucket_of clock i
unfolding bucket_of
bucket_shown clock i shown r h start =
    let wall = shown_at i clock.offset in
    rw (wall_clock_if_any-in wall h.0) (wall_clock_if_any-SomeIff r _ (rw h.1 at start))

pub bucket_out_of_range : (clock : Clock) (i : ℤ) → ShownAt None i clock.offset → None ≡ bucket_of clock i
unfolding bucket_of
bucket_out_of_range clock i h = ap (option_and_then (start_of clock)) (wall_clock_if_any-SomeIff None (shown_at i clock.offset) h)
