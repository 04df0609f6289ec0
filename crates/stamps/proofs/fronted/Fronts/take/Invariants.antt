use Rattle.std.proofs.Common.{length, ◌-◌, ◌≡◌, ◌<◌, ◌≤◌, ◌++◌, List, ℕ, drop}
use Rattle.stamps.specs.FrontRuns.{IsShort, text_of}
use Rattle.stamps.proofs.fronted.Fronts.take.Given as goal

-- the text of the block is that of the lines that are taken in and of what is left of the block
abbrev pub invariant-lines : goal.invariant-lines
invariant-lines l = record {
  within : l.from ≤ length l.block;
  short : IsShort l.fn.self → IsShort l.self;
  text : IsShort l.fn.self → (left : List ℕ) → text_of l.turning l.self (drop l.from l.block ++ left) ≡ text_of l.turning l.fn.self (l.block ++ left);
}

abbrev pub decreases-lines : goal.decreases-lines
decreases-lines l = length l.block - l.from
