use Rattle.std.proofs.Common.{arith}
use Rattle.std.proofs.lemmas.List.{length-take}
use Rattle.stamps.proofs.changes.Choice.try_in_row.Goals as goal

pub try_line-requires : goal.try_line-requires
try_line-requires c = rw c.beginning_of.ensures (omega (arith, length-take 1024 c.args.line.now))
