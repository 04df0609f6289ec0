use Rattle.std.proofs.Common.{◌∙◌, arith}
use Rattle.calendar_values.specs.SignedArith.{signed_arith}
use Rattle.muxandu_c.proofs.ApartLemmas.{duration_between-is, IsDuration-apart}
use Rattle.muxandu_c.proofs.parts.duration_between.Goals as goal

pub sub-requires-2 : goal.sub-requires-2
sub-requires-2 c =
    IsDuration-apart c.args.later c.args.earlier c.wall_of.result c.wall_of-2.result c.sub.result c.seconds_of.result c.args.offsets
    c.wall_of.ensures.in_range c.wall_of-2.ensures.in_range c.wall_of.ensures.value c.wall_of-2.ensures.value c.sub.ensures
    (omega (arith, signed_arith, c.seconds_of.ensures)) c.ranges.offsets

pub returns : goal.returns
returns c =
    c.sub-2.ensures ∙ duration_between-is c.args.later c.args.earlier c.wall_of.result c.wall_of-2.result c.sub.result c.seconds_of.result c.args.offsets
    c.wall_of.ensures.value c.wall_of-2.ensures.value c.sub.ensures
    (omega (arith, signed_arith, c.seconds_of.ensures)) (omega (arith, signed_arith, c.requires))
