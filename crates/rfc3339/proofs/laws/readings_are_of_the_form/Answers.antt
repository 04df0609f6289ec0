use Rattle.rfc3339.specs.ReadingLemmas.{reading_of-spelled, reading_of-syntax}
use Rattle.rfc3339.proofs.laws.readings_are_of_the_form.Goals as goal

pub returns : goal.returns
returns c = λ text. (reading_of-spelled text, reading_of-syntax text)
