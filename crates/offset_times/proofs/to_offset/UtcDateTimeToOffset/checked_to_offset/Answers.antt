use Rattle.std.proofs.Common.{◌≡◌, rules, arith, sym, subst, ℤ, pos, to_z, of_z, w32, ap, ◌∙◌}
use Rattle.std.proofs.lemmas.Int.{ints}
use Rattle.calendar_values.specs.Calendar.{day_of_ordinal_date}
use Rattle.calendar_values.specs.WallClock.{wall_clock, IsWallClock}
use Rattle.offset_times.specs.Local.{instant_of, shown_at, wall_at, local_in_utc, local_at}
use Rattle.offset_times.specs.InstantLemmas.{instant_of-local_at}
use Rattle.offset_times.proofs.to_offset.UtcDateTimeToOffset.checked_to_offset.Goals as goal

-- at the offset 0 clocks show the instant
shown_at-utc : (i o : ℤ) → o ≡ pos 0 → shown_at i o ≡ i
shown_at-utc i o e = rw e (omega (arith, ints))

pub returns-then-is_utc-clause-value : goal.returns-then-is_utc-clause-value
returns-then-is_utc-clause-value c =
    let instant = c.args.self in
    let utc : c.args.offset ≡ pos 0 = search rules in
    let in_range : IsWallClock instant = search rules in
    let shown = shown_at-utc instant c.args.offset utc in
    let made : c.from_utc.result ≡ local_in_utc instant = c.from_utc.ensures.value in (
      subst (λ (w : ℤ). IsWallClock w) (sym shown) in_range,
      made ∙ ap (λ (w : ℤ). local_in_utc w) (sym shown) ∙ ap (λ (o : ℤ). wall_at (shown_at instant c.args.offset) o) (sym utc),
    )

pub returns-in-None-clause-value : goal.returns-in-None-clause-value
returns-in-None-clause-value c =
    let shown : wall_clock (day_of_ordinal_date (to_z w32 (of_z w32 c.utc_to_offset_raw-year.result.0)) c.utc_to_offset_raw-year.result.1)
    c.utc_to_offset_raw-year.result.2 ≡ shown_at c.args.self c.args.offset = search rules in
    λ in_range. c.in-None.ensures (subst (λ (w : ℤ). IsWallClock w) (sym shown) in_range)

pub returns-in-Some-clause-instant : goal.returns-in-Some-clause-instant
returns-in-Some-clause-instant c =
    let kept : c.assume_offset.result ≡ local_at c.args.self c.args.offset = search rules in
    ap instant_of kept ∙ instant_of-local_at c.args.self c.args.offset

pub returns-in-Some-clause-value : goal.returns-in-Some-clause-value
returns-in-Some-clause-value c =
    let shown : wall_clock (day_of_ordinal_date (to_z w32 (of_z w32 c.utc_to_offset_raw-year.result.0)) c.utc_to_offset_raw-year.result.1)
    c.utc_to_offset_raw-year.result.2 ≡ shown_at c.args.self c.args.offset = search rules in (
      subst (λ (w : ℤ). IsWallClock w) shown c.in-Some.ensures.0,
      c.assume_offset.ensures.value ∙ ap (λ (w : ℤ). wall_at w c.args.offset) (c.in-Some.ensures.1 ∙ shown),
    )
