use Rattle.std.proofs.Common.{◌≡◌, ◌∙◌, ℤ, ◌-ℤ◌, to_z, of_z, arith, sym, ap, subst}
use mir.Syntax.{w64}
use Rattle.calendar_values.specs.SignedArith.{signed_arith}
use Rattle.calendar_values.specs.Offsets.{IsOffset}
use Rattle.calendar_values.specs.WallClock.{unix_seconds_of, IsWallClock}
use Rattle.offset_times.specs.Local.{Local, instant_of, offset_nanos, wall_at}
use Rattle.zones.specs.Zones.{ZoneParts, IsZoneInstants}
use Rattle.zones.specs.declared.local_instants.LocalInstants.{LocalInstants}
use Rattle.zones.specs.declared.local_instants.LocalInstants.TheVariants.{Single, Gap, Fold}
use Rattle.zoned_times.specs.declared.local_times.LocalTimes.TheVariants as local_times
use Rattle.zoned_times.specs.Zoned.{AreTimesOf, ShownIn}
use Rattle.zoned_times.proofs.PlaceLemmas.{IsSecond-instant}
use Rattle.zoned_times.proofs.TimesLemmas.{times-single, times-fold, none-gap, IsGap-seconds}
use Rattle.zoned_times.proofs.TimesLemmas.{IsOffset-shown, IsOffset-gap, IsTailSecond-shown, IsTailSecond-gap}
use Rattle.zoned_times.proofs.at_zone.PlainDateTimeAtZone.at_zone.Goals as goal

-- the seconds that are found
found : (z : ZoneParts) (w l : ℤ) (is got : LocalInstants) → IsWallClock w → l ≡ unix_seconds_of w → is ≡ got
    → IsZoneInstants z (to_z w64 (of_z w64 l)) is → IsZoneInstants z (unix_seconds_of w) got
found z w l is got range same_second same h =
    let second = IsSecond-instant w range in
    let e : to_z w64 (of_z w64 l) ≡ unix_seconds_of w = omega (arith, signed_arith) in
    subst (IsZoneInstants z (unix_seconds_of w)) same (subst (λ (s : ℤ). IsZoneInstants z s is) e h)

-- a second at which clocks may show the wall clock
same : (w t : ℤ) → IsWallClock w → IsOffset (unix_seconds_of w -ℤ t) → to_z w64 (of_z w64 t) ≡ t
same w t range offset = let near = IsTailSecond-shown (unix_seconds_of w) t (IsSecond-instant w range) offset in omega (arith, signed_arith)

-- the offset by which the wall clock is ahead of it
ahead : (w t : ℤ) → IsWallClock w → IsOffset (unix_seconds_of w -ℤ t) → IsOffset (unix_seconds_of w -ℤ to_z w64 (of_z w64 t))
ahead w t range offset = subst (λ (s : ℤ). IsOffset (unix_seconds_of w -ℤ s)) (sym (same w t range offset)) offset

-- the date-time of the wall clock at it
at : (w t : ℤ) (v : Local) → IsWallClock w → IsOffset (unix_seconds_of w -ℤ t) → v ≡ wall_at w (unix_seconds_of w -ℤ to_z w64 (of_z w64 t))
    → wall_at w (unix_seconds_of w -ℤ t) ≡ v
at w t v range offset is = sym (subst (λ (s : ℤ). v ≡ wall_at w (unix_seconds_of w -ℤ s)) (same w t range offset) is)

-- its instant, and its offset
instant_at : (w o p : ℤ) (v : Local) → v ≡ wall_at w o → p ≡ v.offset → instant_of v ≡ w -ℤ offset_nanos p
unfolding instant_of
instant_at w o p v is offset =
    subst (λ (x : Local). p ≡ x.offset → instant_of x ≡ w -ℤ offset_nanos p) (sym is) (λ e. ap (λ (q : ℤ). w -ℤ offset_nanos q) (sym e)) offset

offset_at : (w t p : ℤ) (v : Local) → IsWallClock w → IsOffset (unix_seconds_of w -ℤ t) → v ≡ wall_at w (unix_seconds_of w -ℤ to_z w64 (of_z w64 t))
    → p ≡ v.offset → p ≡ unix_seconds_of w -ℤ t
offset_at w t p v range near is offset =
    offset ∙ ap (λ (x : Local). x.offset) is ∙ ap (λ (s : ℤ). unix_seconds_of w -ℤ s) (same w t range near)

pub time_at-requires : goal.time_at-requires
time_at-requires c =
    let z = c.args.zone.now in
    let w = c.args.self in
    let t = c.in-Single.second in
    let range = c.second_shown.ensures.wall_in_range in
    let is = found z w c.second_shown.result c.instants_of.result (Single t) range c.second_shown.ensures.value c.in-Single.is c.instants_of.ensures in
    ahead w t range (IsOffset-shown z (unix_seconds_of w) t is.0)

pub time_at-requires-in-Fold : goal.time_at-requires-in-Fold
time_at-requires-in-Fold c =
    let z = c.args.zone.now in
    let w = c.args.self in
    let t = c.in-Fold.earlier in
    let range = c.second_shown.ensures.wall_in_range in
    let is = found z w c.second_shown.result c.instants_of.result (Fold t c.in-Fold.later) range c.second_shown.ensures.value c.in-Fold.is
    c.instants_of.ensures in
    ahead w t range (IsOffset-shown z (unix_seconds_of w) t is.1)

pub time_at-requires-in-Fold-2 : goal.time_at-requires-in-Fold-2
time_at-requires-in-Fold-2 c =
    let z = c.args.zone.now in
    let w = c.args.self in
    let u = c.in-Fold.later in
    let range = c.second_shown.ensures.wall_in_range in
    let is = found z w c.second_shown.result c.instants_of.result (Fold c.in-Fold.earlier u) range c.second_shown.ensures.value c.in-Fold.is
    c.instants_of.ensures in
    ahead w u range (IsOffset-shown z (unix_seconds_of w) u is.2)

pub time_at-after-requires : goal.time_at-after-requires
time_at-after-requires c =
    let z = c.args.zone.now in
    let w = c.args.self in
    let t = c.in-Gap.earlier in
    let range = c.second_shown.ensures.wall_in_range in
    let is = found z w c.second_shown.result c.instants_of.result (Gap t c.in-Gap.later c.in-Gap.second) range c.second_shown.ensures.value c.in-Gap.is
    c.instants_of.ensures in
    ahead w t range (IsOffset-gap z (unix_seconds_of w) t c.in-Gap.later c.in-Gap.second is).0

pub time_at-before-requires : goal.time_at-before-requires
time_at-before-requires c =
    let z = c.args.zone.now in
    let w = c.args.self in
    let u = c.in-Gap.later in
    let range = c.second_shown.ensures.wall_in_range in
    let is = found z w c.second_shown.result c.instants_of.result (Gap c.in-Gap.earlier u c.in-Gap.second) range c.second_shown.ensures.value c.in-Gap.is
    c.instants_of.ensures in
    ahead w u range (IsOffset-gap z (unix_seconds_of w) c.in-Gap.earlier u c.in-Gap.second is).1

pub invariant_of-gap : goal.invariant_of-gap
invariant_of-gap c =
    let z = c.args.zone.now in
    let w = c.args.self in
    let s = c.in-Gap.second in
    let range = c.second_shown.ensures.wall_in_range in
    let is = found z w c.second_shown.result c.instants_of.result (Gap c.in-Gap.earlier c.in-Gap.later s) range c.second_shown.ensures.value c.in-Gap.is
    c.instants_of.ensures in
    let near = IsTailSecond-gap z (unix_seconds_of w) c.in-Gap.earlier c.in-Gap.later s (IsSecond-instant w range) is in
    record { second_in = (omega (arith, signed_arith), omega (arith, signed_arith)) }

pub returns-in-Single : goal.returns-in-Single
returns-in-Single c =
    let z = c.args.zone.now in
    let w = c.args.self in
    let t = c.in-Single.second in
    let range = c.second_shown.ensures.wall_in_range in
    let is = found z w c.second_shown.result c.instants_of.result (Single t) range c.second_shown.ensures.value c.in-Single.is c.instants_of.ensures in
    let one = at w t c.time_at.result range (IsOffset-shown z (unix_seconds_of w) t is.0) c.time_at.ensures in
    subst (λ (v : Local). AreTimesOf z w (local_times.Single v)) one (times-single z w t is)

pub returns-in-Fold : goal.returns-in-Fold
returns-in-Fold c =
    let z = c.args.zone.now in
    let w = c.args.self in
    let t = c.in-Fold.earlier in
    let u = c.in-Fold.later in
    let range = c.second_shown.ensures.wall_in_range in
    let is = found z w c.second_shown.result c.instants_of.result (Fold t u) range c.second_shown.ensures.value c.in-Fold.is c.instants_of.ensures in
    let one = at w t c.time_at-in-Fold.result range (IsOffset-shown z (unix_seconds_of w) t is.1) c.time_at-in-Fold.ensures in
    let two = at w u c.time_at-in-Fold-2.result range (IsOffset-shown z (unix_seconds_of w) u is.2) c.time_at-in-Fold-2.ensures in
    let first : AreTimesOf z w (local_times.Fold c.time_at-in-Fold.result (wall_at w (unix_seconds_of w -ℤ u))) =
    subst (λ (v : Local). AreTimesOf z w (local_times.Fold v (wall_at w (unix_seconds_of w -ℤ u)))) one (times-fold z w t u is) in
    subst (λ (v : Local). AreTimesOf z w (local_times.Fold c.time_at-in-Fold.result v)) two first

pub returns-in-Gap : goal.returns-in-Gap
returns-in-Gap c =
    let z = c.args.zone.now in
    let w = c.args.self in
    let t = c.in-Gap.earlier in
    let u = c.in-Gap.later in
    let s = c.in-Gap.second in
    let range = c.second_shown.ensures.wall_in_range in
    let is = found z w c.second_shown.result c.instants_of.result (Gap t u s) range c.second_shown.ensures.value c.in-Gap.is c.instants_of.ensures in
    let near = IsOffset-gap z (unix_seconds_of w) t u s is in
    let tail = IsTailSecond-gap z (unix_seconds_of w) t u s (IsSecond-instant w range) is in
    let g : to_z w64 (of_z w64 s) ≡ s = omega (arith, signed_arith) in
    let after = c.time_at-after.result in
    let before = c.time_at-before.result in (
      none-gap z w t u s is,
      IsGap-seconds z w t u s _ is g (offset_at w u c.offset.result before range near.1 c.time_at-before.ensures c.offset.ensures.value)
          (offset_at w t c.offset-in-Gap.result after range near.0 c.time_at-after.ensures c.offset-in-Gap.ensures.value),
      subst (λ (i : ℤ). ShownIn z i c.to_zone.result)
          (instant_at w _ c.offset-in-Gap.result after c.time_at-after.ensures c.offset-in-Gap.ensures.value) c.to_zone.ensures.value,
      subst (λ (i : ℤ). ShownIn z i c.to_zone-in-Gap.result)
          (instant_at w _ c.offset.result before c.time_at-before.ensures c.offset.ensures.value) c.to_zone-in-Gap.ensures.value,
    )
