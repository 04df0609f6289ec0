use Rattle.std.proofs.Common.{ap}
use Rattle.std.specs.Result.{result_map_both}
use Rattle.calendar_values.specs.WallClock.{wall_time}
use Rattle.local_texts.proofs.readings.read_time.Goals as goal

pub returns-in-Err : goal.returns-in-Err
returns-in-Err c = ap (result_map_both (λ at. wall_time at.wall) (λ refusal. refusal)) c.in-Err.ensures
