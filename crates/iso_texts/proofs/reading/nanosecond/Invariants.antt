use Rattle.std.proofs.Common.{◌≡◌, ◌+◌, ◌*◌, ◌≤◌}
use Rattle.rfc3339.specs.Reading.{digits_at}
use Rattle.rfc3339.specs.FieldDigitLemmas.{with_front}
use Rattle.iso_texts.proofs.reading.nanosecond.Given as goal

abbrev pub invariant-loop-unit : goal.invariant-loop-unit
invariant-loop-unit l = record {
  value : with_front l.nanosecond (digits_at l.unit l.rest) ≡ digits_at 100_000_000 l.text;
  room : l.nanosecond + 10 * l.unit ≤ 1_000_000_000;
  below : l.nanosecond ≤ 999_999_999;
}

abbrev pub decreases-loop-unit : goal.decreases-loop-unit
decreases-loop-unit l = l.unit
