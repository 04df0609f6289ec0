use Rattle.duration_texts.proofs.NumberLemmas.{value_from-above}
use Rattle.duration_texts.proofs.numbers.value_of.Goals as goal

pub returns-then-value-gt-MOST_NANOSECONDS-clause-above :
    goal.returns-then-value-gt-MOST_NANOSECONDS-clause-above
returns-then-value-gt-MOST_NANOSECONDS-clause-above c =
    value_from-above c.loop-digit.value c.loop-digit.digit-index c.saturating_sub.result c.args.digits.now 0 c.loop-digit-test.true
    c.loop-digit.invariant.value c.saturating_sub.ensures c.if-value-gt-MOST_NANOSECONDS.true
