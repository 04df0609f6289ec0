use Rattle.std.proofs.Common.{length}
use Rattle.log_forms.proofs.stamps.+splits.Given as goal

abbrev pub decreases-splits : goal.decreases-splits
decreases-splits l = length l.items.now
