use Rattle.std.proofs.Common.{length}
use Rattle.stamps.proofs.years.+named.Given as goal

abbrev pub decreases-named : goal.decreases-named
decreases-named l = length l.values.now
