use Rattle.std.proofs.Common.{length}
use Rattle.log_forms.proofs.json.+before_point.Given as goal

abbrev pub decreases-before_point : goal.decreases-before_point
decreases-before_point l = length l.path.now
