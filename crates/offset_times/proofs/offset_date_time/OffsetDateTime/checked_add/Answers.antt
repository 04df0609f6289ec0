use Rattle.std.proofs.Common.{sym, subst, ℤ, ◌+ℤ◌}
use Rattle.calendar_values.specs.WallClock.{IsWallClock}
use Rattle.offset_times.proofs.SumLemmas.{IsLater-wall}
use Rattle.offset_times.proofs.offset_date_time.OffsetDateTime.checked_add.Goals as goal

pub returns-in-None-clause-value : goal.returns-in-None-clause-value
returns-in-None-clause-value c =
    λ in_range. c.in-None.ensures (subst (λ (w : ℤ). IsWallClock (w +ℤ c.args.duration)) (sym c.date_time.ensures.value)
    in_range)

pub returns-in-Some-clause-value : goal.returns-in-Some-clause-value
returns-in-Some-clause-value c =
    let moved = IsLater-wall c.args.self c.replace_date_time.result c.date_time.result c.in-Some.date_time c.args.duration c.date_time.ensures.value
    c.in-Some.ensures.1 c.replace_date_time.ensures.value in
    (subst (λ (w : ℤ). IsWallClock (w +ℤ c.args.duration)) c.date_time.ensures.value c.in-Some.ensures.0, moved.0)

pub returns-in-Some-clause-instant : goal.returns-in-Some-clause-instant
returns-in-Some-clause-instant c =
    let moved = IsLater-wall c.args.self c.replace_date_time.result c.date_time.result c.in-Some.date_time c.args.duration c.date_time.ensures.value
    c.in-Some.ensures.1 c.replace_date_time.ensures.value in
    moved.1
