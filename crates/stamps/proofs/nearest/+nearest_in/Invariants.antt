use Rattle.stamps.proofs.nearest.+nearest_in.Given as goal

abbrev pub decreases-nearest_in : goal.decreases-nearest_in
decreases-nearest_in l = l.most
