-- The instant of a wall clock at an offset, where the offset or the instant was given.
use Rattle.std.proofs.Common.{◌≡◌, refl, sym, arith, ℤ, pos, ◌+ℤ◌, ◌-ℤ◌, ◌<ℤ◌}
use Rattle.std.proofs.lemmas.Int.{ints}
use Rattle.calendar_values.specs.Clock.{nanos_per_day}
use Rattle.calendar_values.specs.WallClock.{wall_day}
use Rattle.offset_times.specs.Local.{Local, instant_of, wall_at, local_in_utc, local_at, shown_at, offset_nanos, SameOffset}
use Rattle.plain_times.specs.DaysLaterLemmas.{same_day-within}

-- a conversion keeps the instant
pub instant_of-local_at : (i o : ℤ) → instant_of (local_at i o) ≡ i
unfolding instant_of
instant_of-local_at i o = omega (arith, ints)

-- clocks in UTC show the instant itself
pub instant_of-utc : (i : ℤ) → instant_of (local_in_utc i) ≡ i
unfolding instant_of
instant_of-utc i = omega (arith, ints)

-- a wall clock in UTC is its instant
pub instant_of-in_utc : (at : Local) → at.offset ≡ pos 0 → instant_of at ≡ at.wall
unfolding instant_of
instant_of-in_utc at utc = omega (arith, ints)

-- at the instant of a value, clocks at its offset show its wall clock
pub shown_at-instant_of : (at : Local) → shown_at (instant_of at) at.offset ≡ at.wall
unfolding instant_of
shown_at-instant_of at = omega (arith, ints)

pub local_at-instant_of : (at : Local) → local_at (instant_of at) at.offset ≡ at
unfolding instant_of
local_at-instant_of at = rw (shown_at-instant_of at)

-- at the same offset, the instant of a later wall clock is later by the same duration
pub instant_of-later : (at : Local) (d : ℤ) → instant_of (wall_at (at.wall +ℤ d) at.offset) ≡ instant_of at +ℤ d
unfolding instant_of
instant_of-later at d = omega (arith, ints)

pub instant_of-earlier : (at : Local) (d : ℤ) → instant_of (wall_at (at.wall -ℤ d) at.offset) ≡ instant_of at -ℤ d
unfolding instant_of
instant_of-earlier at d = omega (arith, ints)

-- another wall clock at the same offset
pub SameOffset-wall_at : (at : Local) (w : ℤ) → SameOffset at (wall_at w at.offset)
unfolding instant_of
SameOffset-wall_at at w = (refl, omega (arith, ints))

pub ruleset same_offset = SameOffset-wall_at

-- on one day at one offset two instants are less than a day apart
pub instant_of-not_a_day_later : (old new : Local) → SameOffset old new → wall_day new.wall ≡ wall_day old.wall
    → instant_of new <ℤ (instant_of old +ℤ pos nanos_per_day)
instant_of-not_a_day_later old new same day =
    let later = same_day-within new.wall old.wall day in omega (arith, ints, same.1)

pub instant_of-not_a_day_earlier : (old new : Local) → SameOffset old new → wall_day new.wall ≡ wall_day old.wall
    → instant_of old <ℤ (instant_of new +ℤ pos nanos_per_day)
instant_of-not_a_day_earlier old new same day =
    let earlier = same_day-within old.wall new.wall (sym day) in omega (arith, ints, same.1)

pub ruleset same_day = (instant_of-not_a_day_later, instant_of-not_a_day_earlier)

-- j plus the difference i - j is i, and i minus the difference is j
pub later-by_difference : (i j : ℤ) → j +ℤ (i -ℤ j) ≡ i
later-by_difference i j = omega (arith, ints)

pub earlier-by_difference : (i j : ℤ) → i -ℤ (i -ℤ j) ≡ j
earlier-by_difference i j = omega (arith, ints)

-- at one instant, the wall clocks at two offsets differ by the difference of the offsets
pub shown_at-apart : (i first second : ℤ) → shown_at i second -ℤ shown_at i first ≡ offset_nanos (second -ℤ first)
shown_at-apart i first second = omega (arith, ints)

-- the rule set for callers that compare the wall clocks at two offsets
pub ruleset two_offsets = shown_at-apart

-- the rule set for callers that follow an instant through conversions, sums and differences
pub ruleset instants = (instant_of-local_at, instant_of-utc, instant_of-later, instant_of-earlier, later-by_difference, earlier-by_difference)
