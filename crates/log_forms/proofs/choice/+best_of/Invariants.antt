use Rattle.log_forms.proofs.choice.+best_of.Given as goal

abbrev pub decreases-best_of : goal.decreases-best_of
decreases-best_of l = l.readers
