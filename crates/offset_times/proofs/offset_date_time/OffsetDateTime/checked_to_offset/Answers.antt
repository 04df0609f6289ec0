use Rattle.std.proofs.Common.{◌≡◌, ◌∙◌, rules, sym, subst, ℕ, ℤ, to_z, of_z, w32, ap}
use Rattle.calendar_values.specs.Calendar.{day_of_ordinal_date}
use Rattle.calendar_values.specs.WallClock.{wall_clock, IsWallClock}
use Rattle.offset_times.specs.Local.{instant_of, shown_at, wall_at, local_at}
use Rattle.offset_times.specs.InstantLemmas.{instant_of-local_at}
use Rattle.offset_times.proofs.LocalLemmas.{shown_at-own, local_at-own}
use Rattle.offset_times.proofs.offset_date_time.OffsetDateTime.checked_to_offset.Goals as goal

pub returns-then-from-to-clause-value : goal.returns-then-from-to-clause-value
returns-then-from-to-clause-value c =
    let from : to_z w32 (of_z w32 c.whole_seconds-from.result) ≡ c.whole_seconds-from.result = search rules in
    let to : to_z w32 (of_z w32 c.whole_seconds-to.result) ≡ c.whole_seconds-to.result = search rules in
    let seconds = sym from ∙ ap (λ (bits : ℕ). to_z w32 bits) c.if-from-to.true ∙ to in
    let same = sym c.whole_seconds-from.ensures.value ∙ seconds ∙ c.whole_seconds-to.ensures.value in
    let own : c.args.self.offset ≡ c.args.offset = sym c.offset.ensures.value ∙ same in (
      subst (λ (w : ℤ). IsWallClock w) (sym (shown_at-own c.args.self c.args.offset own)) c.offset.ensures.self_in_range.0,
      sym (local_at-own c.args.self c.args.offset own),
    )

pub returns-in-None-clause-value : goal.returns-in-None-clause-value
returns-in-None-clause-value c =
    let shown : wall_clock (day_of_ordinal_date (to_z w32 (of_z w32 c.to_offset_raw-year.result.0)) c.to_offset_raw-year.result.1) c.to_offset_raw-year.result.2
    ≡ shown_at (instant_of c.args.self) c.args.offset = search rules in
    λ in_range. c.in-None.ensures (subst (λ (w : ℤ). IsWallClock w) (sym shown) in_range)

pub returns-in-Some-clause-instant : goal.returns-in-Some-clause-instant
returns-in-Some-clause-instant c =
    let kept : c.assume_offset.result ≡ local_at (instant_of c.args.self) c.args.offset = search rules in
    ap instant_of kept ∙ instant_of-local_at (instant_of c.args.self) c.args.offset

pub returns-in-Some-clause-value : goal.returns-in-Some-clause-value
returns-in-Some-clause-value c =
    let shown : wall_clock (day_of_ordinal_date (to_z w32 (of_z w32 c.to_offset_raw-year.result.0)) c.to_offset_raw-year.result.1) c.to_offset_raw-year.result.2
    ≡ shown_at (instant_of c.args.self) c.args.offset = search rules in (
      subst (λ (w : ℤ). IsWallClock w) shown c.in-Some.ensures.0,
      c.assume_offset.ensures.value ∙ ap (λ (w : ℤ). wall_at w c.args.offset) (c.in-Some.ensures.1 ∙ shown),
    )
