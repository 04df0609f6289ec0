use Rattle.std.proofs.Common.{◌≡◌, ◌∙◌, sym, ℤ, pos, ◌+ℤ◌, ◌-ℤ◌, ◌*ℤ◌, Some, Option, Result, to_z, of_z, arith, ap}
use mir.Syntax.{w64}
use Rattle.calendar_values.specs.Clock.{nanos_per_second}
use Rattle.calendar_values.specs.SignedArith.{signed_arith}
use Rattle.calendar_values.specs.WallClock.{unix_seconds_of}
use Rattle.log_zones.specs.Earliest.{earliest_second}
use Rattle.log_zones.specs.Instants.{in_range, instant_by, zone_instant}
use Rattle.log_zones.specs.declared.instants.NoInstant.{NoInstant}
use Rattle.plain_times.specs.Sums.{wall_clock_if_any}
use Rattle.zones.specs.Ranges.{IsNear}
use Rattle.zones.specs.Seconds.{IsSecond}
use Rattle.zones.specs.Zones.{ZoneParts}
use Rattle.log_zones.proofs.instants.instant_in.Goals as goal

-- the instant at a second that is found
found_is : (z : ZoneParts) (wall local second diff : ℤ) (found : Option ℤ) (r : Result ℤ NoInstant) → local ≡ unix_seconds_of wall
    → found ≡ earliest_second z local → found ≡ Some second → diff ≡ second -ℤ local
    → r ≡ in_range (wall_clock_if_any (wall +ℤ diff *ℤ pos nanos_per_second)) → r ≡ zone_instant z wall
unfolding zone_instant
found_is z wall local second diff found r here is same less e =
    e ∙ ap (λ (d : ℤ). in_range (wall_clock_if_any (wall +ℤ d *ℤ pos nanos_per_second))) less
    ∙ ap (λ (l : ℤ). in_range (wall_clock_if_any (wall +ℤ (second -ℤ l) *ℤ pos nanos_per_second))) here
    ∙ ap (instant_by wall) (sym same ∙ is ∙ ap (earliest_second z) here)

-- how far the second is from the wall clock, as the program counts it
counted : (local second : ℤ) → IsSecond local → IsNear (to_z w64 (of_z w64 local)) second
    → to_z w64 (of_z w64 (to_z w64 (of_z w64 second) -ℤ to_z w64 (of_z w64 local))) ≡ second -ℤ local
counted local second range near = omega (arith, signed_arith, range.0, range.1, near.0, near.1)

back : (local : ℤ) → IsSecond local → to_z w64 (of_z w64 local) ≡ local
back local range = omega (arith, signed_arith, range.0, range.1)

pub returns-in-Some : goal.returns-in-Some
returns-in-Some c =
    let z = c.args.zone.now in
    let local = c.second_of-local.result in
    let range = c.second_of-local.ensures.in_range in
    let found = c.earliest_second.ensures.value ∙ ap (earliest_second z) (back local range) in
    found_is z c.args.wall local c.in-Some.second _ c.earliest_second.result c.later_by.result c.second_of-local.ensures.value found c.in-Some.is
    (counted local c.in-Some.second range c.in-Some.ensures.near) c.later_by.ensures
