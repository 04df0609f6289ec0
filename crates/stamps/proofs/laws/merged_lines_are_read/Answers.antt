use Rattle.stamps.proofs.MergeLawLemmas.{read_again, written_in_unix}
use Rattle.stamps.proofs.laws.merged_lines_are_read.Goals as goal

pub returns-clause-read : goal.returns-clause-read
returns-clause-read c = read_again

pub returns-clause-unix : goal.returns-clause-unix
returns-clause-unix c = written_in_unix
