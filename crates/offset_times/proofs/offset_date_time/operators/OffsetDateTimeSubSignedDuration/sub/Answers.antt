use Rattle.std.proofs.Common.{sym, subst, ℤ, ◌-ℤ◌}
use Rattle.calendar_values.specs.WallClock.{IsWallClock}
use Rattle.offset_times.proofs.SumLemmas.{IsEarlier-wall}
use Rattle.offset_times.proofs.offset_date_time.operators.OffsetDateTimeSubSignedDuration.sub.Goals as goal

pub sub-requires : goal.sub-requires
sub-requires c = subst (λ (w : ℤ). IsWallClock (w -ℤ c.args.duration)) (sym c.date_time.ensures.value) c.requires

pub returns : goal.returns
returns c =
    IsEarlier-wall c.args.self c.replace_date_time.result c.date_time.result c.sub.result c.args.duration c.date_time.ensures.value c.sub.ensures
    c.replace_date_time.ensures.value
