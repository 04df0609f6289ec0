use Rattle.std.proofs.Common.{rules}
use Rattle.lanes.proofs.PartLemmas.{bits-back, four-numbers}
use Rattle.lanes.proofs.seconds.parts_of.Goals as goal

pub returns-clause-year : goal.returns-clause-year
returns-clause-year c =
    four-numbers (bits-back c.args.a.year _ (search rules) c.cast_unsigned.ensures) (bits-back c.args.b.year _ (search rules) c.cast_unsigned-2.ensures)
    (bits-back c.args.c.year _ (search rules) c.cast_unsigned-3.ensures) (bits-back c.args.d.year _ (search rules) c.cast_unsigned-4.ensures)
