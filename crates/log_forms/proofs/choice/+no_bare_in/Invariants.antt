use Rattle.std.proofs.Common.{length}
use Rattle.log_forms.proofs.choice.+no_bare_in.Given as goal

abbrev pub decreases-no_bare_in : goal.decreases-no_bare_in
decreases-no_bare_in l = length l.lines.now
