use Rattle.std.proofs.Common.{sym, subst, ℤ, ◌+ℤ◌}
use Rattle.calendar_values.specs.WallClock.{IsWallClock}
use Rattle.offset_times.proofs.SumLemmas.{IsLater-wall}
use Rattle.offset_times.proofs.offset_date_time.operators.OffsetDateTimeAddSignedDuration.add.Goals as goal

pub add-requires : goal.add-requires
add-requires c = subst (λ (w : ℤ). IsWallClock (w +ℤ c.args.duration)) (sym c.date_time.ensures.value) c.requires

pub returns : goal.returns
returns c =
    IsLater-wall c.args.self c.replace_date_time.result c.date_time.result c.add.result c.args.duration c.date_time.ensures.value c.add.ensures
    c.replace_date_time.ensures.value
