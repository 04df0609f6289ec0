use Rattle.std.proofs.Common.{◌≡◌, ◌+◌, ◌*◌, ◌≤◌, length}
use Rattle.rfc3339.specs.Reading.{digits_at}
use Rattle.rfc3339.specs.FieldDigitLemmas.{with_front}
use Rattle.format_descriptions.proofs.fractions.all_digits.Given as goal

-- the digits so far and those that follow are all of them
abbrev pub invariant-loop-unit : goal.invariant-loop-unit
invariant-loop-unit l = record {
  value : with_front l.nanosecond (digits_at l.unit l.rest) ≡ digits_at 100_000_000 l.text;
  room : l.nanosecond + 10 * l.unit ≤ 1_000_000_000;
  below : l.nanosecond ≤ 999_999_999;
  shorter : length l.rest ≤ length l.text;
}

abbrev pub decreases-loop-unit : goal.decreases-loop-unit
decreases-loop-unit l = l.unit
