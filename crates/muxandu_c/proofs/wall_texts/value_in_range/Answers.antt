use Rattle.std.proofs.Common.{arith}
use Rattle.muxandu_c.proofs.WallTextLemmas.{meaning-value}
use Rattle.muxandu_c.proofs.wall_texts.value_in_range.Goals as goal

pub returns-in-Ok-clause-value : goal.returns-in-Ok-clause-value
returns-in-Ok-clause-value c =
    let value = rw c.spelled_parts-parts.ensures at c.in-Ok.ensures.value in
    meaning-value c.args.numbers c.in-Ok.at (omega (arith, c.if-numbers-gt23.false)) (omega (arith, c.if-numbers-gt59.false)) value
