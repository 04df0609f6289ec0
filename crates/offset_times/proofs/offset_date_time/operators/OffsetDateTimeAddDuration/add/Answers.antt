use Rattle.std.proofs.Common.{sym, subst, ℤ, pos, ◌+ℤ◌}
use Rattle.std.specs.Duration.{as_nanos}
use Rattle.calendar_values.specs.WallClock.{IsWallClock}
use Rattle.offset_times.proofs.SumLemmas.{IsLater-wall}
use Rattle.offset_times.proofs.offset_date_time.operators.OffsetDateTimeAddDuration.add.Goals as goal

pub add-requires : goal.add-requires
add-requires c = subst (λ (w : ℤ). IsWallClock (w +ℤ (pos (as_nanos c.args.duration)))) (sym c.date_time.ensures.value) c.requires

pub returns : goal.returns
returns c =
    IsLater-wall c.args.self c.replace_date_time.result c.date_time.result c.add.result (pos (as_nanos c.args.duration)) c.date_time.ensures.value c.add.ensures
    c.replace_date_time.ensures.value
