use Rattle.std.proofs.Common.{false}
use Rattle.format_descriptions.proofs.ChoiceLemmas.{first-choices-taken, first-choices-read, taken-choice}
use Rattle.format_descriptions.proofs.laws.first_choices_are_taken.Goals as goal

pub returns : goal.returns
returns c = record {
  taken = first-choices-taken;
  read = first-choices-read;
  choice = λ items chosen text rest p q taken. taken-choice false items chosen text p rest q taken;
}
