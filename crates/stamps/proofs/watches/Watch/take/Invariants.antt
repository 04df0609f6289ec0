use Rattle.std.proofs.Common.{length, ◌-◌}
use Rattle.stamps.proofs.watches.Watch.take.Given as goal

abbrev pub decreases-lines : goal.decreases-lines
decreases-lines l = length l.block - l.from
