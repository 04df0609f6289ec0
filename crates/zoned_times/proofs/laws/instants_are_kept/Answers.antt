use Rattle.zoned_times.proofs.LawLemmas.{shown-instant, shown-one}
use Rattle.zoned_times.proofs.laws.instants_are_kept.Goals as goal

pub returns : goal.returns
returns c = record {
  instant = shown-instant;
  one = shown-one c.types_are_one.ensures;
}
