use Rattle.std.proofs.Common.{refl}
use Rattle.format_descriptions.specs.Reading.{month_at}
use Rattle.format_descriptions.proofs.words.+month_up_to.Goals as goal

pub returns-then-last-eq0-clause-value : goal.returns-then-last-eq0-clause-value
unfolding month_at
returns-then-last-eq0-clause-value t c = rw c.if-last-eq0.true refl
