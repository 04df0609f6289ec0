use Rattle.std.proofs.Common.{refl}
use Rattle.rfc3339.specs.Suffixes.{suffix_rules}
use Rattle.rfc3339.proofs.laws.suffixes_are_printed.Goals as goal

pub returns : goal.returns
unfolding suffix_rules
returns c = record { rules = refl }
