use Rattle.std.proofs.Common.{◌≡◌, ◌≤◌, ◌*◌, drop, length, Some}
use Rattle.duration_texts.specs.Numbers.{part_of}
use Rattle.duration_texts.proofs.numbers.part_of.Given as goal

-- the part of the digits from here on
abbrev pub invariant-loop-k : goal.invariant-loop-k
invariant-loop-k l = record {
  value : part_of l.unit (drop l.k l.digits) ≡ Some l.part;
  bound : l.part ≤ 23 * l.unit;
  within : l.k ≤ length l.digits;
}

abbrev pub decreases-loop-k : goal.decreases-loop-k
decreases-loop-k l = l.k
