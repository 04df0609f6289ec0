use Rattle.rfc3339.proofs.PointLemmas.{fraction_text-nine, fraction_text-six, fraction_text-three}
use Rattle.rfc3339.proofs.write_into.put_some_fraction.Goals as goal

pub returns-then-nanosecond-ne0-clause-value : goal.returns-then-nanosecond-ne0-clause-value
returns-then-nanosecond-ne0-clause-value c = rw (
  fraction_text-nine c.args.nanosecond c.if-nanosecond-ne0.true,
  ←
      c.nine_digits.ensures,
) c.write_at.ensures.value

pub returns-then-nanosecond-ne0-clause-place : goal.returns-then-nanosecond-ne0-clause-place
returns-then-nanosecond-ne0-clause-place c = rw (fraction_text-nine c.args.nanosecond c.if-nanosecond-ne0.true) (rw c.nine_digits.ensures at
    c.write_at.ensures.place)

pub returns-then-microsecond-ne0-clause-value : goal.returns-then-microsecond-ne0-clause-value
returns-then-microsecond-ne0-clause-value c = rw (
  fraction_text-six c.args.nanosecond c.if-nanosecond-eq0.true c.if-microsecond-ne0.true,
  ←
      c.six_digits.ensures,
) c.write_at-then-microsecond-ne0.ensures.value

pub returns-then-microsecond-ne0-clause-place : goal.returns-then-microsecond-ne0-clause-place
returns-then-microsecond-ne0-clause-place c = rw (fraction_text-six c.args.nanosecond c.if-nanosecond-eq0.true c.if-microsecond-ne0.true) (rw
    c.six_digits.ensures at c.write_at-then-microsecond-ne0.ensures.place)

pub returns-then-millisecond-ne0-clause-value : goal.returns-then-millisecond-ne0-clause-value
returns-then-millisecond-ne0-clause-value c = rw (
  fraction_text-three c.args.nanosecond c.if-nanosecond-eq0-2.true c.if-millisecond-ne0.true,
  ←
      c.three_digits.ensures,
) c.write_at-then-millisecond-ne0.ensures.value

pub returns-then-millisecond-ne0-clause-place : goal.returns-then-millisecond-ne0-clause-place
returns-then-millisecond-ne0-clause-place c = rw (fraction_text-three c.args.nanosecond c.if-nanosecond-eq0-2.true c.if-millisecond-ne0.true) (rw
    c.three_digits.ensures at c.write_at-then-millisecond-ne0.ensures.place)
