use Rattle.line_merges.proofs.ByteLemmas.{lines-keep}
use Rattle.line_merges.proofs.laws.lines_keep_bytes.Goals as goal

pub returns : goal.returns
returns g c = lines-keep
