use Rattle.std.proofs.Common.{◌≡◌, ◌+◌, ◌*◌, ◌≤◌, length}
use Rattle.format_descriptions.specs.Reading.{counted_at}
use Rattle.format_descriptions.proofs.DigitLemmas.{counted_on}
use Rattle.format_descriptions.proofs.fractions.read_digits.Given as goal

-- the number so far, and the digits that are left, are all the digits
abbrev pub invariant-loop-left : goal.invariant-loop-left
invariant-loop-left l = record {
  value : counted_on l.number (counted_at l.left l.unit l.rest) ≡ counted_at l.count l.fn.unit l.text;
  below : l.number + 10 * l.unit ≤ 10 * l.fn.unit;
  shorter : length l.rest ≤ length l.text;
}

abbrev pub decreases-loop-left : goal.decreases-loop-left
decreases-loop-left l = l.left
