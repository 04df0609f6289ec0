use Rattle.rfc3339.specs.TextLemmas.{front_at-short}
use Rattle.rfc3339.proofs.reading.front_by_parts.Goals as goal

pub returns-then-text-lt-SHORTEST-clause-value : goal.returns-then-text-lt-SHORTEST-clause-value
returns-then-text-lt-SHORTEST-clause-value c = front_at-short c.args.text.now c.if-text-lt-SHORTEST.true
