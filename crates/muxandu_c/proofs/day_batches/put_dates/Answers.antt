use Rattle.std.proofs.Common.{◌≡◌, rules, refl, w32, to_z, of_z}
use Rattle.muxandu_c.proofs.day_batches.put_dates.Goals as goal

pub returns : goal.returns
returns c =
    let a : to_z w32 (of_z w32 c.args.a) ≡ c.args.a = search rules in
    let b : to_z w32 (of_z w32 c.args.b) ≡ c.args.b = search rules in
    let third : to_z w32 (of_z w32 c.args.c) ≡ c.args.c = search rules in
    let d : to_z w32 (of_z w32 c.args.d) ≡ c.args.d = search rules in
    let values = rw (a, b, third, d) at c.dates-values.ensures in
    rw (c.date_of_lane.ensures, c.date_of_lane-2.ensures, c.date_of_lane-3.ensures, c.date_of_lane-4.ensures, values) refl
