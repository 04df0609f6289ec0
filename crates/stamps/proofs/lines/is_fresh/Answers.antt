use Rattle.std.proofs.Common.{◌≡◌, true}
use Rattle.stamps.proofs.lines.is_fresh.Goals as goal

pub returns-in-Kept-clause-begun : goal.returns-in-Kept-clause-begun
returns-in-Kept-clause-begun c = λ f k h. let t : c.is_empty.result ≡ true = c.is_empty.ensures.1 h in absurd cc
