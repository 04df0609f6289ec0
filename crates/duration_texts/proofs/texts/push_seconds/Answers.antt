use Rattle.std.proofs.Common.{decimal}
use Rattle.duration_texts.proofs.WrittenLemmas.{pushed-seconds}
use Rattle.duration_texts.proofs.texts.push_seconds.Goals as goal

pub returns-then-nanoseconds-gt0-clause-text : goal.returns-then-nanoseconds-gt0-clause-text
returns-then-nanoseconds-gt0-clause-text c =
    pushed-seconds c.args.text.now (decimal c.args.seconds) c.push_decimal.new.self c.push.new.self c.push_fraction.new.self c.args.nanoseconds
    c.if-nanoseconds-gt0.true c.requires.nanoseconds c.push_decimal.ensures.value c.push.ensures.value c.push_fraction.ensures.value
