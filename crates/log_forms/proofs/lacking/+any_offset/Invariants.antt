use Rattle.std.proofs.Common.{length}
use Rattle.log_forms.proofs.lacking.+any_offset.Given as goal

abbrev pub decreases-any_offset : goal.decreases-any_offset
decreases-any_offset l = length l.items.now
