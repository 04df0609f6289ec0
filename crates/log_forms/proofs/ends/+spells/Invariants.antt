use Rattle.std.proofs.Common.{length}
use Rattle.log_forms.proofs.ends.+spells.Given as goal

abbrev pub decreases-spells : goal.decreases-spells
decreases-spells l = length l.row.now
