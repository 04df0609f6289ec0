use Rattle.std.proofs.Common.{length}
use Rattle.format_descriptions.proofs.description_words.+after_name.Given as goal

abbrev pub decreases-after_name : goal.decreases-after_name
decreases-after_name l = length l.name.now
