use Rattle.std.proofs.Common.{rules, ◌≡◌, to_z, of_z, w32, w64}
use Rattle.muxandu_c.proofs.zone_offsets.offset_in.Goals as goal

pub returns-in-Ok-zone_of : goal.returns-in-Ok-zone_of
returns-in-Ok-zone_of c =
    let e : to_z w32 (of_z w32 c.offset_at.result) ≡ c.offset_at.result = search rules in
    let s : to_z w64 (of_z w64 c.args.second) ≡ c.args.second = search rules in
    let found = rw s at c.offset_at.ensures.offset in
    (c.in-Ok-zone_of.zone, c.in-Ok-zone_of.ensures, rw e found)
