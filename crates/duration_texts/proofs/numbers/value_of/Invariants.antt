use Rattle.std.proofs.Common.{◌≡◌, ◌≤◌, drop}
use Rattle.duration_texts.specs.Numbers.{value_from, value_of, most_nanoseconds}
use Rattle.duration_texts.proofs.numbers.value_of.Given as goal

-- the digits that are left continue the number so far
abbrev pub invariant-loop-digit : goal.invariant-loop-digit
invariant-loop-digit l = record {
  value : value_from l.value (drop l.digit-index l.digits) ≡ value_of l.digits;
  bound : l.value ≤ most_nanoseconds;
}
