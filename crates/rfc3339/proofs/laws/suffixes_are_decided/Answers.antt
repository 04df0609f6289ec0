use Rattle.std.proofs.Common.{refl}
use Rattle.rfc3339.specs.Grammar.{rfc3339}
use Rattle.rfc3339.specs.Suffixes.{suffix_rules, rfc9557, date_time_ext}
use Rattle.rfc3339.proofs.RecogniserLemmas.{decided}
use Rattle.rfc3339.proofs.laws.suffixes_are_decided.Goals as goal

pub returns : goal.returns
unfolding rfc3339 suffix_rules rfc9557
returns c = record {
  ranked = refl;
  decided = λ text. decided rfc9557 date_time_ext text refl;
  alone = refl;
  zone = refl;
  calendar = refl;
  tags = refl;
  critical = refl;
  offset = refl;
  two_zones = refl;
  no_end = refl;
  upper_key = refl;
}
