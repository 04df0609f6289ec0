use Rattle.std.proofs.Common.{length}
use Rattle.stamps.proofs.years.+first_unnamed.Given as goal

abbrev pub decreases-first_unnamed : goal.decreases-first_unnamed
decreases-first_unnamed l = length l.values.now
