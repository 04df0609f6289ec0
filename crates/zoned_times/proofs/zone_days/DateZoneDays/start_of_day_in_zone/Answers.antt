use Rattle.std.proofs.Common.{◌≡◌, ◌∙◌, ℤ, pos, ◌*ℤ◌, Option, Some, None, to_z, of_z, arith, sym, ap, subst}
use mir.Syntax.{w32, w64}
use Rattle.calendar_values.specs.SignedArith.{signed_arith}
use Rattle.calendar_values.specs.Range.{IsDay}
use Rattle.calendar_values.specs.WallClock.{SomeInRange}
use Rattle.offset_times.specs.Local.{shown_at, wall_at}
use Rattle.utc_times.specs.UnixTime.{instant_of_second}
use Rattle.zones.specs.Ranges.{IsNear}
use Rattle.zones.specs.Zones.{ZoneParts, IsDayStart, IsZoneOffset}
use Rattle.zoned_times.specs.Zoned.{HasOffset}
use Rattle.zoned_times.proofs.PlaceLemmas.{IsFirstOf-second, HasOffset-second, second-whole}
use Rattle.zoned_times.proofs.zone_days.DateZoneDays.start_of_day_in_zone.Goals as goal

-- a day that is cast is the same day
cast : (n day : ℤ) → n ≡ day → IsDay day → to_z w64 (of_z w64 (to_z w32 (of_z w32 n))) ≡ day
cast n day same range =
    let a : to_z w32 (of_z w32 n) ≡ n = omega (arith, signed_arith) in
    omega (arith, signed_arith)

-- and so is its first second
second : (n day t : ℤ) → n ≡ day → IsDay day → IsNear (to_z w64 (of_z w64 (to_z w32 (of_z w32 n))) *ℤ pos 86_400) t → to_z w64 (of_z w64 t) ≡ t
second n day t same range near =
    let e = cast n day same range in
    omega (arith, signed_arith)

-- the offset at a whole second is that at its instant
offset : (z : ZoneParts) (s t o : ℤ) → s ≡ t → IsZoneOffset z s o → HasOffset z (instant_of_second t) o
offset z s t o same h = HasOffset-second z (instant_of_second t) o (subst (λ (x : ℤ). IsZoneOffset z x o) (same ∙ sym (second-whole t)) h)

pub offset_at-offset-requires : goal.offset_at-offset-requires
offset_at-offset-requires c =
    let t = c.start_of_day-second.result in
    let is = c.days_since_epoch.ensures.value in
    let range = c.days_since_epoch.ensures.self_in_range in
    let near = c.start_of_day-second.ensures.near in
    let a = cast c.days_since_epoch.result c.args.self is range in
    let e = second c.days_since_epoch.result c.args.self t is range near in
    (omega (arith, signed_arith), omega (arith, signed_arith))

pub wall_clock_at-requires : goal.wall_clock_at-requires
wall_clock_at-requires c =
    let t = c.start_of_day-second.result in
    let is = c.days_since_epoch.ensures.value in
    let range = c.days_since_epoch.ensures.self_in_range in
    let near = c.start_of_day-second.ensures.near in
    let a = cast c.days_since_epoch.result c.args.self is range in
    let e = second c.days_since_epoch.result c.args.self t is range near in
    (omega (arith, signed_arith), omega (arith, signed_arith))

pub returns-in-Some : goal.returns-in-Some
returns-in-Some c =
    let z = c.args.zone.now in
    let day = c.args.self in
    let t = c.start_of_day-second.result in
    let is = c.days_since_epoch.ensures.value in
    let range = c.days_since_epoch.ensures.self_in_range in
    let e = second c.days_since_epoch.result day t is range c.start_of_day-second.ensures.near in
    let start = subst (λ (d : ℤ). IsDayStart z d t) (cast c.days_since_epoch.result day is range) c.start_of_day-second.ensures.start in
    let o = c.offset_at-offset.result in
    let has = offset z _ t o e c.offset_at-offset.ensures in
    let wall = subst (λ (s : ℤ). SomeInRange (Some c.in-Some.wall) (shown_at (instant_of_second s) o)) e
    (subst (λ (r : Option ℤ). SomeInRange r (shown_at (instant_of_second (to_z w64 (of_z w64 t))) o)) c.in-Some.is c.wall_clock_at.ensures) in
    (instant_of_second t, IsFirstOf-second z day t start, (o, has, (wall.0, c.assume_offset.ensures.value ∙ ap (λ (w : ℤ). wall_at w o) wall.1)))

pub returns-in-None : goal.returns-in-None
returns-in-None c =
    let z = c.args.zone.now in
    let day = c.args.self in
    let t = c.start_of_day-second.result in
    let is = c.days_since_epoch.ensures.value in
    let range = c.days_since_epoch.ensures.self_in_range in
    let e = second c.days_since_epoch.result day t is range c.start_of_day-second.ensures.near in
    let start = subst (λ (d : ℤ). IsDayStart z d t) (cast c.days_since_epoch.result day is range) c.start_of_day-second.ensures.start in
    let o = c.offset_at-offset.result in
    let has = offset z _ t o e c.offset_at-offset.ensures in
    let none = subst (λ (s : ℤ). SomeInRange None (shown_at (instant_of_second s) o)) e
    (subst (λ (r : Option ℤ). SomeInRange r (shown_at (instant_of_second (to_z w64 (of_z w64 t))) o)) c.in-None.is c.wall_clock_at.ensures) in
    (instant_of_second t, IsFirstOf-second z day t start, (o, has, none))
