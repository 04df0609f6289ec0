use Rattle.std.proofs.Common.{sym, subst, ℤ, pos, ◌-ℤ◌}
use Rattle.std.specs.Duration.{as_nanos}
use Rattle.calendar_values.specs.WallClock.{IsWallClock}
use Rattle.offset_times.proofs.SumLemmas.{IsEarlier-wall}
use Rattle.offset_times.proofs.offset_date_time.operators.OffsetDateTimeSubDuration.sub.Goals as goal

pub sub-requires : goal.sub-requires
sub-requires c = subst (λ (w : ℤ). IsWallClock (w -ℤ (pos (as_nanos c.args.duration)))) (sym c.date_time.ensures.value) c.requires

pub returns : goal.returns
returns c =
    IsEarlier-wall c.args.self c.replace_date_time.result c.date_time.result c.sub.result (pos (as_nanos c.args.duration)) c.date_time.ensures.value
    c.sub.ensures c.replace_date_time.ensures.value
