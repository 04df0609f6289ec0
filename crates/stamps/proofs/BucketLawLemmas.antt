-- The bucket of an instant has it.
use Rattle.std.proofs.Common.{◌≡◌, ℕ, ◌<◌, Bool, true, false, cond, ℤ, pos, ◌+ℤ◌, ◌*ℤ◌, Option, Some, None, arith, refl, subst, ◌∙◌}
use Rattle.std.proofs.lemmas.Int.{ints}
use Rattle.std.specs.Int.{int_div_euclid}
use Rattle.std.specs.Option.{option_and_then}
use Rattle.calendar_values.specs.Range.{is_outside}
use Rattle.calendar_values.specs.WallClock.{first_wall_clock, last_wall_clock, IsWallClock}
use Rattle.offset_times.specs.Local.{instant_of, local_multiple_below, shown_at, wall_at}
use Rattle.plain_times.specs.Sums.{nearest_wall_clock, wall_clock_if_any}
use Rattle.plain_times.specs.TruncationLemmas.{wall_multiple_below-not_above, wall_multiple_below-within}
use Rattle.plain_times.specs.Truncations.{wall_multiple_below}
use Rattle.stamps.specs.BucketLaws.{HasInstant}
use Rattle.stamps.specs.Buckets.{bucket_of, start_of, unit_nanos}
use Rattle.stamps.specs.declared.counts.Clock.{Clock}
use Rattle.stamps.specs.declared.counts.Unit.{Unit}
use Rattle.stamps.specs.declared.counts.Unit.TheVariants.{Minute, Hour, Day}

some-unit : (unit : Unit) → 0 < unit_nanos unit
some-unit Minute = omega arith
some-unit Hour = omega arith
some-unit Day = omega arith

chosen-value : (is_out : Bool) (w start : ℤ) → cond is_out None (Some w) ≡ Some start → w ≡ start
chosen-value true w start h = absurd cc
chosen-value false w start h = cc

if_any-value : (w start : ℤ) → wall_clock_if_any w ≡ Some start → w ≡ start
unfolding wall_clock_if_any
if_any-value w start h = chosen-value (is_outside first_wall_clock last_wall_clock w) w start h

-- the start of the unit of a wall clock
abbrev start_at : Clock → ℤ → ℤ
start_at clock wall = instant_of (local_multiple_below (unit_nanos clock.unit) (wall_at wall clock.offset))

started-by : (clock : Clock) (wall start : ℤ) (shown : Option ℤ) → wall_clock_if_any wall ≡ shown
    → option_and_then (start_of clock) shown ≡ Some start → start_at clock wall ≡ start
started-by clock wall start None e h = absurd cc
started-by clock wall start (Some x) e h = let same = if_any-value wall x e in rw same (if_any-value (start_at clock x) start h)

started : (clock : Clock) (i start : ℤ) → bucket_of clock i ≡ Some start → start_at clock (shown_at i clock.offset) ≡ start
unfolding bucket_of
started clock i start h = started-by clock (shown_at i clock.offset) start (wall_clock_if_any (shown_at i clock.offset)) refl h

nearest-in : (w : ℤ) → IsWallClock w → nearest_wall_clock w ≡ w
unfolding nearest_wall_clock
nearest-in w h = grind (arith, ints)

-- the instant at which a unit starts, by the wall clock there
start-shown : (clock : Clock) (wall : ℤ) → shown_at (start_at clock wall) clock.offset ≡ wall_multiple_below (unit_nanos clock.unit) wall
unfolding instant_of
start-shown clock wall = omega (arith, ints)

multiple-of : (unit : ℕ) (wall : ℤ) → wall_multiple_below unit wall ≡ int_div_euclid wall (pos unit) *ℤ pos unit
unfolding wall_multiple_below
multiple-of unit wall = refl

pub bucket-has : (clock : Clock) (i start : ℤ) → bucket_of clock i ≡ Some start → HasInstant clock i start
bucket-has clock i start h =
    let unit = unit_nanos clock.unit in
    let wall = shown_at i clock.offset in
    let is = started clock i start h in
    let shown : shown_at start clock.offset ≡ wall_multiple_below unit wall =
    subst (λ (z : ℤ). shown_at z clock.offset ≡ wall_multiple_below unit wall) is (start-shown clock wall) in
    let low = wall_multiple_below-not_above unit wall (some-unit clock.unit) in
    let high = wall_multiple_below-within unit wall (some-unit clock.unit) in
    record {
      low = omega (arith, ints, shown, low);
      high = omega (arith, ints, shown, high);
      next = λ inside. nearest-in (start +ℤ pos unit) inside;
      whole = (int_div_euclid wall (pos unit), shown ∙ multiple-of unit wall);
    }
