use Rattle.std.proofs.Common.{length}
use Rattle.log_forms.proofs.place_words.+number_in.Given as goal

abbrev pub decreases-number_in : goal.decreases-number_in
decreases-number_in l = length l.text.now
