use Rattle.std.proofs.Common.{refl}
use Rattle.rfc3339.specs.Grammar.{rfc3339}
use Rattle.rfc3339.proofs.RecogniserLemmas.{decided, rfc3339-ranked, refused}
use Rattle.rfc3339.proofs.laws.grammars_are_decided.Goals as goal

pub returns : goal.returns
unfolding rfc3339
returns c = record {
  decided = decided;
  ranked = rfc3339-ranked;
  refused = refused;
  derived = refl;
  not_derived = refl;
  recursive = refl;
}
