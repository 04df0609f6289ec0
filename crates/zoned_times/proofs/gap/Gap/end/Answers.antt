use Rattle.std.proofs.Common.{◌≡◌, to_z, of_z, arith}
use mir.Syntax.{w64}
use Rattle.calendar_values.specs.SignedArith.{signed_arith}
use Rattle.zoned_times.proofs.gap.Gap.end.Goals as goal

pub returns : goal.returns
returns c =
    let range = c.args.self.second_in in
    let e : to_z w64 (of_z w64 c.args.self.second) ≡ c.args.self.second = omega (arith, signed_arith) in
    rw e at c.wall_clock_at.ensures
