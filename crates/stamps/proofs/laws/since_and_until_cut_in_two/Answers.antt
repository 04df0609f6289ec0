use Rattle.stamps.proofs.CutLawLemmas.{since_end, since_text, until_end, until_text}
use Rattle.stamps.proofs.LineLawLemmas.{line_texts-whole}
use Rattle.stamps.proofs.laws.since_and_until_cut_in_two.Goals as goal

pub returns : goal.returns
returns c = record { since = since_text; until = until_text; whole = line_texts-whole; since_ends = since_end; until_ends = until_end }
