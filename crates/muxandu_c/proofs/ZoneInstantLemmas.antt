-- The instants of a wall clock in a time zone, as numbers.
use Rattle.std.proofs.Common.{◌≡◌, ◌∙◌, ℤ, ◌-ℤ◌, ◌≤ℤ◌, ◌<ℤ◌, arith, refl, sym, ap, subst, inl, inr}
use Rattle.std.proofs.lemmas.Int.{ints}
use Rattle.calendar_values.specs.Clock.{nanosecond_of}
use Rattle.calendar_values.specs.SignedArith.{signed_arith}
use Rattle.calendar_values.specs.WallClock.{wall_time, unix_seconds_of}
use Rattle.offset_times.specs.InstantLemmas.{instant_of-local_at, shown_at-instant_of}
use Rattle.offset_times.specs.Local.{Local, instant_of, offset_nanos, shown_at, local_at}
use Rattle.stamp_times.specs.Instants.{instant_of_parts, unix_nanosecond_of}
use Rattle.stamp_times.specs.TimestampLemmas.{instant_of_parts-of}
use Rattle.utc_times.specs.UnixTime.{instant_of_second}
use Rattle.zones.specs.Zones.{ZoneParts}
use Rattle.zoned_times.specs.Zoned.{AreTimesOf, HasOffset, Shows}
use Rattle.zoned_times.specs.declared.local_times.LocalTimes.{LocalTimes}
use Rattle.zoned_times.specs.declared.local_times.LocalTimes.TheVariants as local_times
use Rattle.muxandu_c.specs.ZoneInstants.{instants_of_times}
use Rattle.muxandu_c.specs.ZoneLaws.{InstantsAreExact, IsCounted, ShowsThen, earlier_instant, later_instant}
use Rattle.muxandu_c.specs.declared.zone_instants.MuxanduZoneInstants.{MuxanduZoneInstants}

-- a whole number of seconds keeps the nanosecond
nanosecond_of-earlier : (w o : ℤ) → unix_nanosecond_of (w -ℤ offset_nanos o) ≡ unix_nanosecond_of w
unfolding wall_time
nanosecond_of-earlier w o = omega (arith, signed_arith)

-- the second of the instant of a date-time, and the nanosecond that its clocks show
instant_of-parts : (at : Local) → instant_of_parts (unix_seconds_of (instant_of at)) (nanosecond_of (wall_time at.wall)) ≡ instant_of at
unfolding instant_of
instant_of-parts at =
    ap (instant_of_parts (unix_seconds_of (instant_of at))) (sym (nanosecond_of-earlier at.wall at.offset)) ∙ instant_of_parts-of (instant_of at)

-- the same of a date-time with another wall clock that is that one
instant_of-same : (at : Local) (wall : ℤ) → at.wall ≡ wall
    → instant_of_parts (unix_seconds_of (instant_of at)) (nanosecond_of (wall_time wall)) ≡ instant_of at
instant_of-same at wall is =
    ap (λ (w : ℤ). instant_of_parts (unix_seconds_of (instant_of at)) (nanosecond_of (wall_time w))) (sym is) ∙ instant_of-parts at

-- a date-time of the zone shows its wall clock at its instant, and what a zone shows at an instant is a date-time of it
shows_then : (z : ZoneParts) (wall instant : ℤ) (at : Local) → Shows z wall at → instant ≡ instant_of at → ShowsThen z wall instant
shows_then z wall instant at shown is =
    subst (ShowsThen z wall) (sym is) (at.offset, shown.1, shown_at-instant_of at ∙ shown.0)

local_then : (z : ZoneParts) (wall instant : ℤ) → (h : ShowsThen z wall instant) → Shows z wall (local_at instant h.0)
local_then z wall instant h =
    (h.2, subst (λ (i : ℤ). HasOffset z i h.0) (sym (instant_of-local_at instant h.0)) h.1)

-- an instant at which the zone shows the wall clock is that of one of the date-times
is_that : (z : ZoneParts) (wall instant : ℤ) (at : Local) → (h : ShowsThen z wall instant) → local_at instant h.0 ≡ at → instant ≡ instant_of at
is_that z wall instant at h is = sym (instant_of-local_at instant h.0) ∙ ap instant_of is

complete_times : (z : ZoneParts) (wall instant : ℤ) (times : LocalTimes) → AreTimesOf z wall times → ShowsThen z wall instant
    → IsCounted instant (instants_of_times wall times)
complete_times z wall instant (local_times.Single at) are h =
    let is = is_that z wall instant at h (are.1 (local_at instant h.0) (local_then z wall instant h)) in
    inl (refl, is ∙ sym (instant_of-parts at))
complete_times z wall instant (local_times.Fold earlier later) are h =
    elim (are.3 (local_at instant h.0) (local_then z wall instant h)) [
      | inl e ↦ inr (refl, inl (is_that z wall instant earlier h e ∙ sym (instant_of-parts earlier)))
      | inr e ↦
          let there = instant_of-same later earlier.wall (are.2.0 ∙ sym are.1.0) in
          inr (refl, inr (is_that z wall instant later h e ∙ sym there))
    ]
complete_times z wall instant (local_times.Gap gap earlier later) are h = absurd (are.0 (local_at instant h.0) (local_then z wall instant h))

sound_times : (z : ZoneParts) (wall instant : ℤ) (times : LocalTimes) → AreTimesOf z wall times → IsCounted instant (instants_of_times wall times)
    → ShowsThen z wall instant
sound_times z wall instant (local_times.Single at) are (inl one) = shows_then z wall instant at are.0 (one.1 ∙ instant_of-parts at)
sound_times z wall instant (local_times.Single at) are (inr two) = absurd (omega (arith, two.0))
sound_times z wall instant (local_times.Fold earlier later) are (inl one) = absurd (omega (arith, one.0))
sound_times z wall instant (local_times.Fold earlier later) are (inr two) =
    elim two.1 [
      | inl e ↦ shows_then z wall instant earlier are.1 (e ∙ instant_of-parts earlier)
      | inr e ↦ shows_then z wall instant later are.2 (e ∙ instant_of-same later earlier.wall (are.2.0 ∙ sym are.1.0))
    ]
sound_times z wall instant (local_times.Gap gap earlier later) are (inl one) = absurd (omega (arith, one.0))
sound_times z wall instant (local_times.Gap gap earlier later) are (inr two) = absurd (omega (arith, two.0))

order_times : (z : ZoneParts) (wall : ℤ) (times : LocalTimes) → AreTimesOf z wall times → (instants_of_times wall times).count ≡ 2
    → earlier_instant (instants_of_times wall times) <ℤ later_instant (instants_of_times wall times)
order_times z wall (local_times.Single at) are e = absurd (omega (arith, e))
order_times z wall (local_times.Gap gap earlier later) are e = absurd (omega (arith, e))
order_times z wall (local_times.Fold earlier later) are e =
    rw (instant_of-parts earlier, instant_of-same later earlier.wall (are.2.0 ∙ sym are.1.0)) are.0

skipped_times : (z : ZoneParts) (wall : ℤ) (times : LocalTimes) → AreTimesOf z wall times → (instants_of_times wall times).count ≡ 0
    → (shown_at (instant_of_second (instants_of_times wall times).gap_second) (instants_of_times wall times).later_offset_seconds ≤ℤ wall)
    × (wall <ℤ shown_at (instant_of_second (instants_of_times wall times).gap_second) (instants_of_times wall times).earlier_offset_seconds)
skipped_times z wall (local_times.Single at) are e = absurd (omega (arith, e))
skipped_times z wall (local_times.Fold earlier later) are e = absurd (omega (arith, e))
skipped_times z wall (local_times.Gap gap earlier later) are e = (are.1.begun, are.1.not_over)

pub instants_are_exact : InstantsAreExact
instants_are_exact = record {
  complete = λ z wall instant found are h.
      subst (IsCounted instant) (sym are.2) (complete_times z wall instant are.0 are.1 h);
  sound = λ z wall instant found are h.
      sound_times z wall instant are.0 are.1 (subst (IsCounted instant) are.2 h);
  order = λ z wall found are e.
      subst (λ (f : MuxanduZoneInstants). earlier_instant f <ℤ later_instant f) (sym are.2)
      (order_times z wall are.0 are.1 (ap (λ (f : MuxanduZoneInstants). f.count) (sym are.2) ∙ e));
  skipped = λ z wall found are e.
      subst (λ (f : MuxanduZoneInstants).
      (shown_at (instant_of_second f.gap_second) f.later_offset_seconds ≤ℤ wall)
      × (wall <ℤ shown_at (instant_of_second f.gap_second) f.earlier_offset_seconds)) (sym are.2)
      (skipped_times z wall are.0 are.1 (ap (λ (f : MuxanduZoneInstants). f.count) (sym are.2) ∙ e));
}
