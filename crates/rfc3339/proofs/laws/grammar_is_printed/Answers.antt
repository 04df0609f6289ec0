use Rattle.std.proofs.Common.{refl}
use Rattle.rfc3339.specs.Grammar.{rfc3339}
use Rattle.rfc3339.proofs.laws.grammar_is_printed.Goals as goal

pub returns : goal.returns
unfolding rfc3339
returns c = record { added = refl; rules = refl }
