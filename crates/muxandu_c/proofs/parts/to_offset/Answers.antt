use Rattle.std.proofs.Common.{arith, ◌≡◌, ◌+ℤ◌}
use Rattle.calendar_values.specs.SignedArith.{signed_arith}
use Rattle.offset_times.specs.Local.{instant_of, shown_at}
use Rattle.muxandu_c.proofs.parts.to_offset.Goals as goal

pub returns : goal.returns
unfolding instant_of
returns c =
    let moved : c.wall_of.result +ℤ c.seconds_of.result ≡ shown_at (instant_of c.args.at) c.args.to =
    omega (arith, signed_arith, c.wall_of.ensures, c.requires.from, c.requires.to) in
    rw (← moved) c.checked_sum.ensures
