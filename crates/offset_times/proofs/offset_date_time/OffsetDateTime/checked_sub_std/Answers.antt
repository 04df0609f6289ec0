use Rattle.std.proofs.Common.{sym, subst, ℤ, pos, ◌-ℤ◌}
use Rattle.std.specs.Duration.{as_nanos}
use Rattle.calendar_values.specs.WallClock.{IsWallClock}
use Rattle.offset_times.proofs.SumLemmas.{IsEarlier-wall}
use Rattle.offset_times.proofs.offset_date_time.OffsetDateTime.checked_sub_std.Goals as goal

pub returns-in-None-clause-value : goal.returns-in-None-clause-value
returns-in-None-clause-value c =
    λ in_range. c.in-None.ensures
    (subst (λ (w : ℤ). IsWallClock (w -ℤ (pos (as_nanos c.args.duration)))) (sym c.date_time.ensures.value) in_range)

pub returns-in-Some-clause-value : goal.returns-in-Some-clause-value
returns-in-Some-clause-value c =
    let moved = IsEarlier-wall c.args.self c.replace_date_time.result c.date_time.result c.in-Some.date_time (pos (as_nanos c.args.duration))
    c.date_time.ensures.value c.in-Some.ensures.1 c.replace_date_time.ensures.value in
    (subst (λ (w : ℤ). IsWallClock (w -ℤ (pos (as_nanos c.args.duration)))) c.date_time.ensures.value c.in-Some.ensures.0, moved.0)

pub returns-in-Some-clause-instant : goal.returns-in-Some-clause-instant
returns-in-Some-clause-instant c =
    let moved = IsEarlier-wall c.args.self c.replace_date_time.result c.date_time.result c.in-Some.date_time (pos (as_nanos c.args.duration))
    c.date_time.ensures.value c.in-Some.ensures.1 c.replace_date_time.ensures.value in
    moved.1
