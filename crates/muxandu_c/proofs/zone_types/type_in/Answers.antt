use Rattle.std.proofs.Common.{rules, ◌≡◌, to_z, of_z, w64}
use Rattle.muxandu_c.proofs.zone_types.type_in.Goals as goal

pub returns-in-Ok-zone_of : goal.returns-in-Ok-zone_of
returns-in-Ok-zone_of c =
    let s : to_z w64 (of_z w64 c.args.second) ≡ c.args.second = search rules in
    let found = rw s at c.type_at.ensures in
    (c.in-Ok-zone_of.zone, c.in-Ok-zone_of.ensures, (c.type_at.result, found, c.numbers_of_kind.ensures))
