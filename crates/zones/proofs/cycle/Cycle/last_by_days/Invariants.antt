use Rattle.std.proofs.Common.{◌-◌, ◌+◌, pos, neg_ℤ, ◌+ℤ◌, ◌≤ℤ◌, ◌<ℤ◌}
use borrow.Author.Differences.{up, down}
use Rattle.zones.specs.Cycles.{cycle_second}
use Rattle.zones.proofs.cycle.Cycle.last_by_days.Given as goal

abbrev pub invariant-back : goal.invariant-back
invariant-back l = record {
  low : neg_ℤ (pos 2_390_000) ≤ℤ l.moment;
  high : l.moment ≤ℤ pos 2_390_000;
  ahead : l.second <ℤ cycle_second l.self (l.moment +ℤ pos 1);
}

abbrev pub decreases-back : goal.decreases-back
decreases-back l = up l.moment + 2_390_000 - down l.moment

abbrev pub invariant-on : goal.invariant-on
invariant-on l = record {
  low : neg_ℤ (pos 2_390_000) ≤ℤ l.moment;
  high : l.moment ≤ℤ pos 2_390_000;
  begun : cycle_second l.self l.moment ≤ℤ l.second;
}

abbrev pub decreases-on : goal.decreases-on
decreases-on l = down l.moment + 2_390_000 - up l.moment
