use Rattle.std.proofs.Common.{length}
use Rattle.format_descriptions.proofs.description_values.+count_from.Given as goal

abbrev pub decreases-count_from : goal.decreases-count_from
decreases-count_from l = length l.text.now
