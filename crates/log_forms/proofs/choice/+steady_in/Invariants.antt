use Rattle.std.proofs.Common.{length}
use Rattle.log_forms.proofs.choice.+steady_in.Given as goal

abbrev pub decreases-steady_in : goal.decreases-steady_in
decreases-steady_in l = length l.lines.now
