use Rattle.std.proofs.Common.{◌≡◌, ◌-◌, ◌++◌, List, ℕ, length}
use Rattle.stamps.specs.Leading.{Stands}
use Rattle.stamps.proofs.leading.Leading.look_on.Given as goal

-- what is known of the lines that were looked at
abbrev pub invariant-lines : goal.invariant-lines
invariant-lines l = record {
  chooses : l.self.chooses ≡ l.fn.self.chooses;
  stands : (first : ℕ) (old more : List ℕ) → l.head ≡ old ++ more → Stands l.reader first old l.fn.self → Stands l.reader first l.head l.self;
}

abbrev pub decreases-lines : goal.decreases-lines
decreases-lines l = length l.head - l.self.from
