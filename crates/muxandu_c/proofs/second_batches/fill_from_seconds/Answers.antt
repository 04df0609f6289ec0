use Rattle.std.proofs.Common.{◌≡◌, rules, w32, to_z, of_z}
use Rattle.muxandu_c.specs.Values.{date_time_of_second}
use Rattle.muxandu_c.proofs.SecondBatchLemmas.{groups-and_rest}
use Rattle.muxandu_c.proofs.second_batches.fill_from_seconds.Goals as goal

pub returns-clause-written : goal.returns-clause-written
returns-clause-written c =
    let offset : to_z w32 (of_z w32 c.args.offset_seconds) ≡ c.args.offset_seconds = search rules in
    groups-and_rest (date_time_of_second c.args.offset_seconds) c.args.seconds.now c.fill_groups-place.result c.fill_groups-place.new.out c.args.out.now
    c.fill-rest.new.out c.fill-rest.result.count (rw offset at c.fill_groups-place.ensures.values) c.fill_groups-place.ensures.behind
    (rw offset at c.fill-rest.ensures.written)
