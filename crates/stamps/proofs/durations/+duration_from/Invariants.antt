use Rattle.std.proofs.Common.{length}
use Rattle.stamps.proofs.durations.+duration_from.Given as goal

abbrev pub decreases-duration_from : goal.decreases-duration_from
decreases-duration_from l = length l.text.now
