use Rattle.std.proofs.Common.{length}
use Rattle.log_forms.proofs.choice.+even_in.Given as goal

abbrev pub decreases-even_in : goal.decreases-even_in
decreases-even_in l = length l.lines.now
