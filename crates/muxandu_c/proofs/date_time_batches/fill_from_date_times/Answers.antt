use Rattle.muxandu_c.specs.Values.{second_of_date_time}
use Rattle.muxandu_c.proofs.SecondBatchLemmas.{groups-and_rest}
use Rattle.muxandu_c.proofs.date_time_batches.fill_from_date_times.Goals as goal

pub returns-clause-written : goal.returns-clause-written
returns-clause-written c =
    groups-and_rest second_of_date_time c.args.date_times.now c.fill_second_groups-place.result c.fill_second_groups-place.new.out c.args.out.now
    c.fill-rest.new.out c.fill-rest.result.count c.fill_second_groups-place.ensures.values c.fill_second_groups-place.ensures.behind
    c.fill-rest.ensures.written
