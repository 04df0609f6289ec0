use Rattle.std.proofs.Common.{length}
use Rattle.stamps.proofs.years.+last_sign.Given as goal

abbrev pub decreases-last_sign : goal.decreases-last_sign
decreases-last_sign l = length l.value.now
