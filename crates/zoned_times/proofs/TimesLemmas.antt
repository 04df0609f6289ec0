-- The date-times of a wall clock, from the seconds of its second.
use Rattle.std.proofs.Common.{◌≡◌, inl, inr, ◌+◌, ℤ, ◌-ℤ◌, arith, refl, ap, subst}
use Rattle.std.proofs.lemmas.Int.{ints}
use Rattle.calendar_values.specs.Offsets.{IsOffset}
use Rattle.calendar_values.specs.WallClock.{unix_seconds_of}
use Rattle.offset_times.specs.Local.{Local, instant_of, offset_nanos, wall_at}
use Rattle.zones.specs.Clocks.{IsPlace}
use Rattle.zones.specs.Ranges.{IsTailSecond}
use Rattle.zones.specs.Seconds.{IsSecond}
use Rattle.zones.specs.Zones.{ZoneParts, HasTransition, zone_second, zone_type, ZoneShows, IsZoneInstants}
use Rattle.zones.specs.declared.local_instants.LocalInstants.TheVariants as local_instants
use Rattle.zoned_times.specs.declared.gap.Gap.{Gap}
use Rattle.zoned_times.specs.declared.local_times.LocalTimes.TheVariants as local_times
use Rattle.zoned_times.specs.Zoned.{Shows, IsGap, AreTimesOf}
use Rattle.zoned_times.proofs.PlaceLemmas.{second-begun, second-not_over, second-earlier, place-of_second, place-of_instant}

-- the second at which clocks show the wall clock's second makes a date-time
pub Shows-second : (z : ZoneParts) (w t : ℤ) → ZoneShows z (unix_seconds_of w) t → Shows z w (wall_at w (unix_seconds_of w -ℤ t))
unfolding instant_of
Shows-second z w t h =
    let shown = h.1.shown in
    let earlier = second-earlier w (unix_seconds_of w -ℤ t) in
    let e : t ≡ unix_seconds_of (w -ℤ offset_nanos (unix_seconds_of w -ℤ t)) = omega (arith, ints) in
    let place = subst (λ (s : ℤ). IsPlace (HasTransition z) (zone_second z) s h.0) e h.1.place in
    (refl, (h.0, place-of_second (HasTransition z) (zone_second z) (w -ℤ offset_nanos (unix_seconds_of w -ℤ t)) h.0 place, omega (arith, ints)))

-- and no date-time has another second
pub ZoneShows-instant : (z : ZoneParts) (w : ℤ) (v : Local) → Shows z w v → ZoneShows z (unix_seconds_of w) (unix_seconds_of w -ℤ v.offset)
unfolding instant_of
ZoneShows-instant z w v h =
    let place = place-of_instant (HasTransition z) (zone_second z) (v.wall -ℤ offset_nanos v.offset) h.1.0 h.1.1 in
    let earlier = second-earlier v.wall v.offset in
    let same = ap unix_seconds_of h.0 in
    let offset = h.1.2 in
    let e : unix_seconds_of (v.wall -ℤ offset_nanos v.offset) ≡ unix_seconds_of w -ℤ v.offset = omega (arith, ints) in
    (h.1.0, record { place = subst (λ (s : ℤ). IsPlace (HasTransition z) (zone_second z) s h.1.0) e place; shown = omega (arith, ints) })

-- the offset of such a second is in range
pub IsOffset-shown : (z : ZoneParts) (l t : ℤ) → ZoneShows z l t → IsOffset (l -ℤ t)
IsOffset-shown z l t h =
    let in_range = (zone_type z h.0).offset_in in
    let shown = h.1.shown in
    omega (arith, ints)

-- a date-time is that of its wall clock and its offset
pub wall_at-parts : (v : Local) (w o : ℤ) → v.wall ≡ w → v.offset ≡ o → v ≡ wall_at w o
wall_at-parts v w o wall offset = subst (λ (x : ℤ). v ≡ wall_at x o) wall (subst (λ (y : ℤ). v ≡ wall_at v.wall y) offset refl)

-- one second is one date-time
pub times-single : (z : ZoneParts) (w t : ℤ) → IsZoneInstants z (unix_seconds_of w) (local_instants.Single t)
    → AreTimesOf z w (local_times.Single (wall_at w (unix_seconds_of w -ℤ t)))
times-single z w t is = (
  Shows-second z w t is.0,
  λ v h. (let only = is.1 (unix_seconds_of w -ℤ v.offset) (ZoneShows-instant z w v h) in
      wall_at-parts v w (unix_seconds_of w -ℤ t) h.0 (omega (arith, ints))),
)

-- two seconds are two date-times
pub times-fold : (z : ZoneParts) (w t u : ℤ) → IsZoneInstants z (unix_seconds_of w) (local_instants.Fold t u)
    → AreTimesOf z w (local_times.Fold (wall_at w (unix_seconds_of w -ℤ t)) (wall_at w (unix_seconds_of w -ℤ u)))
unfolding instant_of
times-fold z w t u is = (
  (let less = is.0 in omega (arith, ints)),
  Shows-second z w t is.1,
  Shows-second z w u is.2,
  λ v h. (elim (is.3 (unix_seconds_of w -ℤ v.offset) (ZoneShows-instant z w v h)) [
    | inl first ↦ inl (wall_at-parts v w (unix_seconds_of w -ℤ t) h.0 (omega (arith, ints)))
    | inr second ↦ inr (wall_at-parts v w (unix_seconds_of w -ℤ u) h.0 (omega (arith, ints)))
  ]),
)

-- no second is a gap
pub IsGap-seconds : (z : ZoneParts) (w t u s : ℤ) (gap : Gap) → IsZoneInstants z (unix_seconds_of w) (local_instants.Gap t u s) → gap.second ≡ s
    → gap.before ≡ unix_seconds_of w -ℤ u → gap.after ≡ unix_seconds_of w -ℤ t → IsGap z w gap
IsGap-seconds z w t u s gap is second before after =
    let begun = second-begun w in
    let over = second-not_over w in
    let m = is.1.2 in
    let n = is.1.3 in
    let o = is.1.4 in
    let p = is.1.5 in
    let q = is.1.6 in
    record {
      place = is.1.0;
      has = is.1.1;
      second = omega (arith, ints);
      before = omega (arith, ints);
      after = omega (arith, ints);
      begun = omega (arith, ints);
      not_over = omega (arith, ints);
    }

pub none-gap : (z : ZoneParts) (w t u s : ℤ) → IsZoneInstants z (unix_seconds_of w) (local_instants.Gap t u s) → (v : Local) → Shows z w v → ⊥
none-gap z w t u s is v h = is.0 (unix_seconds_of w -ℤ v.offset) (ZoneShows-instant z w v h)

-- the offsets of a gap and its second are in range
pub IsOffset-gap : (z : ZoneParts) (l t u s : ℤ) → IsZoneInstants z l (local_instants.Gap t u s) → IsOffset (l -ℤ t) × IsOffset (l -ℤ u)
IsOffset-gap z l t u s is =
    let k = is.1.0 in
    let after = (zone_type z (k + 1)).offset_in in
    let before = (zone_type z k).offset_in in
    let m = is.1.2 in
    let n = is.1.3 in
    ((omega (arith, ints), omega (arith, ints)), (omega (arith, ints), omega (arith, ints)))

pub IsTailSecond-gap : (z : ZoneParts) (l t u s : ℤ) → IsSecond l → IsZoneInstants z l (local_instants.Gap t u s) → IsTailSecond s
IsTailSecond-gap z l t u s local is =
    let offsets = IsOffset-gap z l t u s is in
    let p = is.1.5 in
    let q = is.1.6 in
    (omega (arith, ints), omega (arith, ints))

-- the second at which clocks may show a wall clock of such a second
pub IsTailSecond-shown : (l t : ℤ) → IsSecond l → IsOffset (l -ℤ t) → IsTailSecond t
IsTailSecond-shown l t local offset = (omega (arith, ints), omega (arith, ints))
