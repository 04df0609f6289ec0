-- The instants of wall clocks in a zone.
use Rattle.std.proofs.Common.{◌≡◌, sym, ap, ◌∙◌, arith, ℤ, pos, negsuc, ◌+ℤ◌, ◌-ℤ◌, ◌*ℤ◌, ◌≤ℤ◌, ◌<ℤ◌, Option, Some, None, Result, Ok, Err, subst}
use Rattle.std.proofs.lemmas.Int.{ints, by_lt_z}
use Rattle.calendar_values.specs.Clock.{nanos_per_second}
use Rattle.calendar_values.specs.WallClock.{first_wall_clock, last_wall_clock, unix_seconds_of}
use Rattle.plain_times.specs.SumLemmas.{wall_clock_if_any-after, wall_clock_if_any-before, wall_clock_if_any-in}
use Rattle.plain_times.specs.Sums.{wall_clock_if_any}
use Rattle.log_zones.proofs.EarliestLemmas.{earliest}
use Rattle.log_zones.specs.Earliest.{IsEarliest, earliest_second}
use Rattle.log_zones.specs.Instants.{ClocksShowIt, ShowsWall, SkippedIsNeverShown, in_range, instant_by, zone_instant}
use Rattle.log_zones.specs.declared.instants.NoInstant.{NoInstant}
use Rattle.log_zones.specs.declared.instants.NoInstant.TheVariants.{Skipped, OutOfRange}
use Rattle.zones.specs.Zones.{ZoneParts, ZoneShows}

-- an instant lies in its second
second-begun : (i : ℤ) → (unix_seconds_of i *ℤ pos nanos_per_second) ≤ℤ i
second-begun (pos a) = omega (arith, ints)
second-begun (negsuc a) = omega (arith, ints)

second-not_over : (i : ℤ) → i <ℤ ((unix_seconds_of i +ℤ pos 1) *ℤ pos nanos_per_second)
second-not_over (pos a) = omega (arith, ints)
second-not_over (negsuc a) = omega (arith, ints)

-- an instant in range is the number
in_range-is : (w i : ℤ) → in_range (wall_clock_if_any w) ≡ Ok i → w ≡ i
in_range-is w i e =
    by_lt_z w first_wall_clock (λ lt. absurd (out (sym (ap in_range (wall_clock_if_any-before w lt)) ∙ e)))
    (λ low. by_lt_z last_wall_clock w (λ gt. absurd (out (sym (ap in_range (wall_clock_if_any-after w gt)) ∙ e)))
    (λ high. same (sym (ap in_range (wall_clock_if_any-in w (low, high))) ∙ e)))
  where
    out : ◌≡◌ {A = Result ℤ NoInstant} (Err OutOfRange) (Ok i) → ⊥
    out e = absurd cc

    same : ◌≡◌ {A = Result ℤ NoInstant} (Ok w) (Ok i) → w ≡ i
    same e = cc

not_skipped : (found : Option ℤ) → in_range found ≡ Err Skipped → ⊥
not_skipped None e = absurd cc
not_skipped (Some i) e = absurd cc

-- the second of the instant is the one that is found
second_is : (wall t i : ℤ) → wall +ℤ (t -ℤ unix_seconds_of wall) *ℤ pos nanos_per_second ≡ i → unix_seconds_of i ≡ t
second_is wall t i e =
    let begun = second-begun wall in
    let over = second-not_over wall in
    let first = second-begun i in
    let last = second-not_over i in
    omega (arith, ints, begun, over, first, last, e)

shown_by : (z : ZoneParts) (wall i : ℤ) (found : Option ℤ) → IsEarliest z (unix_seconds_of wall) found → instant_by wall found ≡ Ok i → ShowsWall z wall i
shown_by z wall i None h e = absurd cc
shown_by z wall i (Some t) h e =
    let is = in_range-is (wall +ℤ (t -ℤ unix_seconds_of wall) *ℤ pos nanos_per_second) i e in
    let second = second_is wall t i is in record {
      second = subst (ZoneShows z (unix_seconds_of wall)) (sym second) h.0;
      rest = omega (arith, ints, is, second);
    }

earliest_by : (z : ZoneParts) (wall i other : ℤ) (found : Option ℤ) → IsEarliest z (unix_seconds_of wall) found → instant_by wall found ≡ Ok i
    → ShowsWall z wall other → i ≤ℤ other
earliest_by z wall i other None h e shows = absurd cc
earliest_by z wall i other (Some t) h e shows =
    let is = in_range-is (wall +ℤ (t -ℤ unix_seconds_of wall) *ℤ pos nanos_per_second) i e in
    let least = h.1 (unix_seconds_of other) shows.second in
    let rest = shows.rest in
    omega (arith, ints, is, least, rest)

never_by : (z : ZoneParts) (wall i : ℤ) (found : Option ℤ) → IsEarliest z (unix_seconds_of wall) found → instant_by wall found ≡ Err Skipped
    → ShowsWall z wall i → ⊥
never_by z wall i None h e shows = h (unix_seconds_of i) shows.second
never_by z wall i (Some t) h e shows = not_skipped (wall_clock_if_any (wall +ℤ (t -ℤ unix_seconds_of wall) *ℤ pos nanos_per_second)) e

pub clocks_show_it : ClocksShowIt
unfolding zone_instant
clocks_show_it = record {
  shown = λ z h wall i e. shown_by z wall i (earliest_second z (unix_seconds_of wall)) (earliest z h (unix_seconds_of wall)) e;
  earliest = λ z h wall i other e shows.
      earliest_by z wall i other (earliest_second z (unix_seconds_of wall)) (earliest z h (unix_seconds_of wall)) e shows;
}

pub never_shown : SkippedIsNeverShown
unfolding zone_instant
never_shown z h wall i e shows =
    never_by z wall i (earliest_second z (unix_seconds_of wall)) (earliest z h (unix_seconds_of wall)) e shows
