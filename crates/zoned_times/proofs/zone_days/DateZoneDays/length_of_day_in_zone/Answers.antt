use Rattle.std.proofs.Common.{◌≡◌, ◌∙◌, ℤ, pos, ◌+ℤ◌, ◌-ℤ◌, ◌*ℤ◌, FitsSigned, to_z, of_z, arith, subst}
use Rattle.std.proofs.lemmas.Int.{ints}
use mir.Syntax.{w32, w64}
use Rattle.calendar_values.specs.Clock.{nanos_per_second}
use Rattle.calendar_values.specs.SignedArith.{signed_arith}
use Rattle.utc_times.specs.UnixTime.{instant_of_second}
use Rattle.zones.specs.Zones.{IsDayLength}
use Rattle.zoned_times.proofs.PlaceLemmas.{IsFirstOf-second}
use Rattle.zoned_times.proofs.zone_days.DateZoneDays.length_of_day_in_zone.Goals as goal

-- the nanoseconds between two seconds
between : (n m s t : ℤ) → n ≡ m → m ≡ t -ℤ s → n *ℤ pos nanos_per_second ≡ instant_of_second t -ℤ instant_of_second s
between n m s t same is = omega (arith, ints)

pub returns : goal.returns
returns c =
    let z = c.args.zone.now in
    let day = c.days_since_epoch.ensures.value in
    let range = c.days_since_epoch.ensures.self_in_range in
    let a : to_z w32 (of_z w32 c.days_since_epoch.result) ≡ c.days_since_epoch.result = omega (arith, signed_arith) in
    let b : to_z w64 (of_z w64 (to_z w32 (of_z w32 c.days_since_epoch.result))) ≡ c.args.self = omega (arith, signed_arith) in
    let h = subst (λ (d : ℤ). IsDayLength z d c.length_of_day.result) b c.length_of_day.ensures in
    let fits : FitsSigned w64 c.length_of_day.result = record { sfits = c.length_of_day.type_inv } in
    let e : to_z w64 (of_z w64 c.length_of_day.result) ≡ c.length_of_day.result = omega (arith, signed_arith) in (
      instant_of_second h.0,
      instant_of_second h.1,
      IsFirstOf-second z c.args.self h.0 h.2,
      IsFirstOf-second z (c.args.self +ℤ pos 1) h.1 h.3,
      c.seconds.ensures ∙ between _ c.length_of_day.result h.0 h.1 e h.4,
    )
