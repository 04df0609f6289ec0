use Rattle.plain_times.proofs.WallClockLawLemmas.{replacements_keep_the_rest}
use Rattle.plain_times.proofs.laws.replacements_keep_the_rest.Goals as goal

pub returns : goal.returns
returns c = replacements_keep_the_rest
