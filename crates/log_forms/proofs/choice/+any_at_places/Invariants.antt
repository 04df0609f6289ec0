use Rattle.log_forms.proofs.choice.+any_at_places.Given as goal

abbrev pub decreases-any_at_places : goal.decreases-any_at_places
decreases-any_at_places l = l.places
