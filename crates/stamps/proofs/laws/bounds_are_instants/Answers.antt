use Rattle.stamps.proofs.UsageLawLemmas.{exact, finer_is_none, only_exact, out_of_range_is_none}
use Rattle.stamps.proofs.laws.bounds_are_instants.Goals as goal

pub returns : goal.returns
returns c = record { instant = exact; too_fine = finer_is_none; only = only_exact; out_of_range = out_of_range_is_none }
