use Rattle.std.proofs.Common.{rules, ◌≡◌, to_z, of_z, w64}
use Rattle.muxandu_c.proofs.ZoneBatchLemmas.{offset_in, refused_in}
use Rattle.muxandu_c.proofs.zone_batches.interval_in.Goals as goal

pub returns-in-Ok-clause-offset : goal.returns-in-Ok-clause-offset
returns-in-Ok-clause-offset c =
    let same : to_z w64 (of_z w64 c.args.item) ≡ c.args.item = search rules in
    let second : to_z w64 (of_z w64 c.in-Ok.second) ≡ c.in-Ok.second = search rules in
    let read = rw same at c.in-Ok.ensures.value in
    let within = rw second at c.interval_for.ensures.within in
    offset_in c.args.zone.now c.args.item c.in-Ok.second c.interval_for.result read c.interval_for.ensures.holds within

pub returns-in-Err-clause-refused : goal.returns-in-Err-clause-refused
returns-in-Err-clause-refused c =
    let same : to_z w64 (of_z w64 c.args.item) ≡ c.args.item = search rules in
    refused_in c.args.zone.now c.args.item c.in-Err.refused (rw same at c.in-Err.ensures.value)
