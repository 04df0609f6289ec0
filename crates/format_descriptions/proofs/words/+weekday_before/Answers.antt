use Rattle.std.proofs.Common.{refl}
use Rattle.format_descriptions.specs.Reading.{weekday_at}
use Rattle.format_descriptions.proofs.words.+weekday_before.Goals as goal

pub returns-then-end-eq0-clause-value : goal.returns-then-end-eq0-clause-value
unfolding weekday_at
returns-then-end-eq0-clause-value t c = rw c.if-end-eq0.true refl
