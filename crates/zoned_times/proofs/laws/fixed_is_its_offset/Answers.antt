use Rattle.zoned_times.proofs.LawLemmas.{fixed-shown, fixed-times}
use Rattle.zoned_times.proofs.laws.fixed_is_its_offset.Goals as goal

pub returns : goal.returns
returns c = record {
  shown = fixed-shown c.fixed_is_one_offset.ensures;
  times = fixed-times c.fixed_is_one_offset.ensures;
}
