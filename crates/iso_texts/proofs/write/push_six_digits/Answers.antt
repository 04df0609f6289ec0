use Rattle.iso_texts.proofs.IsoYearLemmas.{pushed_six}
use Rattle.iso_texts.proofs.write.push_six_digits.Goals as goal

pub returns-clause-value : goal.returns-clause-value
returns-clause-value c =
    pushed_six _ _ _ _ c.args.number c.args.is_below c.sign.ensures.value c.push_part.ensures.value c.push_four_digits.ensures.value
