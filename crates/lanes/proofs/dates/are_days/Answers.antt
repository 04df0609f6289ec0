use Rattle.std.proofs.Common.{◌≡◌, rules, w32, to_z, of_z}
use Rattle.lanes.proofs.DateLemmas.{days-four}
use Rattle.lanes.proofs.dates.are_days.Goals as goal

pub returns : goal.returns
returns c =
    let a : to_z w32 (of_z w32 c.args.a) ≡ c.args.a = search rules in
    let b : to_z w32 (of_z w32 c.args.b) ≡ c.args.b = search rules in
    let third : to_z w32 (of_z w32 c.args.c) ≡ c.args.c = search rules in
    let d : to_z w32 (of_z w32 c.args.d) ≡ c.args.d = search rules in
    rw (c.shifted_days.ensures, a, b, third, d)
    (days-four c.args.a c.args.b c.args.c c.args.d c.ranges.a c.ranges.b c.ranges.c c.ranges.d)
