use Rattle.log_forms.proofs.GrowthLemmas.{count_read-found, count_read-others, found_by-length}
use Rattle.log_forms.proofs.laws.found_lines_count.Goals as goal

pub returns : goal.returns
returns c = record { lines = found_by-length; counted = count_read-found; others = count_read-others }
