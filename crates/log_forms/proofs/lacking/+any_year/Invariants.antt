use Rattle.std.proofs.Common.{length}
use Rattle.log_forms.proofs.lacking.+any_year.Given as goal

abbrev pub decreases-any_year : goal.decreases-any_year
decreases-any_year l = length l.items.now
