use Rattle.std.proofs.Common.{arith, ap, length, ℕ}
use Rattle.std.proofs.lemmas.Fmt.{decimal_digit}
use Rattle.calendar_values.proofs.DigitLemmas.{length_before_last_decimal, length-decimal-push, decimal-push, decimal-only}
use Rattle.calendar_values.proofs.text.Text.+push_decimal.Goals as goal

pub returns-then-number-lt10-clause-value : goal.returns-then-number-lt10-clause-value
returns-then-number-lt10-clause-value t c =
    decimal-only _ _ c.args.number c.if-number-lt10.true c.push.ensures.value

pub returns-then-number-lt10-clause-length : goal.returns-then-number-lt10-clause-length
returns-then-number-lt10-clause-length t c =
    omega (arith, ap (length {A = ℕ}) (decimal_digit c.args.number c.if-number-lt10.true))

pub push-requires-else-number-lt10-clause-room : goal.push-requires-else-number-lt10-clause-room
push-requires-else-number-lt10-clause-room t c =
    omega (arith, length_before_last_decimal _ _ c.args.number (omega arith) c.push_decimal.ensures.value)

pub returns-else-number-lt10-clause-value : goal.returns-else-number-lt10-clause-value
returns-else-number-lt10-clause-value t c =
    decimal-push _ _ _ c.args.number c.if-number-lt10.false (omega arith) c.push_decimal.ensures.value c.push-else-number-lt10.ensures.value

pub returns-else-number-lt10-clause-length : goal.returns-else-number-lt10-clause-length
returns-else-number-lt10-clause-length t c =
    omega (arith, length-decimal-push c.args.number (omega arith) (omega arith))

pub returns-else-number-lt10-clause-at_most : goal.returns-else-number-lt10-clause-at_most
returns-else-number-lt10-clause-at_most t c =
    omega (arith, length_before_last_decimal _ _ c.args.number (omega arith) c.push_decimal.ensures.value)
