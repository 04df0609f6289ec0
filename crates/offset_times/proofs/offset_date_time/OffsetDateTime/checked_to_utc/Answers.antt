use Rattle.std.proofs.Common.{◌≡◌, ◌∙◌, rules, sym, subst, ℤ, pos, to_z, of_z, w32}
use Rattle.calendar_values.specs.Calendar.{day_of_ordinal_date}
use Rattle.calendar_values.specs.WallClock.{wall_clock, IsWallClock}
use Rattle.offset_times.specs.Local.{instant_of}
use Rattle.offset_times.specs.InstantLemmas.{instant_of-in_utc}
use Rattle.offset_times.proofs.offset_date_time.OffsetDateTime.checked_to_utc.Goals as goal

pub returns-in-None : goal.returns-in-None
returns-in-None c =
    let shown : wall_clock (day_of_ordinal_date (to_z w32 (of_z w32 c.to_utc_raw-year.result.0)) c.to_utc_raw-year.result.1) c.to_utc_raw-year.result.2 ≡
    instant_of c.args.self = search rules in
    λ in_range. c.in-None.ensures (subst (λ (w : ℤ). IsWallClock w) (sym shown) in_range)

pub returns-then-is_utc : goal.returns-then-is_utc
returns-then-is_utc c =
    let utc : c.offset.result ≡ pos 0 = search rules in
    let own = instant_of-in_utc c.args.self (sym c.offset.ensures.value ∙ utc) in (
      subst (λ (w : ℤ). IsWallClock w) (sym own) c.date_time.ensures.self_in_range.0,
      c.as_utc.ensures ∙ c.date_time.ensures.value ∙ sym own,
    )

pub returns-in-Some : goal.returns-in-Some
returns-in-Some c =
    let shown : wall_clock (day_of_ordinal_date (to_z w32 (of_z w32 c.to_utc_raw-year.result.0)) c.to_utc_raw-year.result.1) c.to_utc_raw-year.result.2 ≡
    instant_of c.args.self = search rules in
    (subst (λ (w : ℤ). IsWallClock w) shown c.in-Some.ensures.0, c.as_utc-in-Some.ensures ∙ c.in-Some.ensures.1 ∙ shown)
