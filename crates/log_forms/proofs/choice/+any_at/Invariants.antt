use Rattle.log_forms.proofs.choice.+any_at.Given as goal

abbrev pub decreases-any_at : goal.decreases-any_at
decreases-any_at l = l.forms
