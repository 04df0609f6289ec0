use Rattle.rfc3339.specs.ValueLemmas.{length-fixed_text}
use Rattle.rfc3339.proofs.laws.fixed_texts_have_one_width.Goals as goal

pub returns : goal.returns
returns c = length-fixed_text
