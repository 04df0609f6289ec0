use Rattle.muxandu_c.specs.Values.{date_from_day}
use Rattle.muxandu_c.proofs.SecondBatchLemmas.{groups-and_rest}
use Rattle.muxandu_c.proofs.day_batches.fill_from_days.Goals as goal

pub returns-clause-written : goal.returns-clause-written
returns-clause-written c =
    groups-and_rest date_from_day c.args.days.now c.fill_date_groups-place.result c.fill_date_groups-place.new.out c.args.out.now
    c.fill-rest.new.out c.fill-rest.result.count c.fill_date_groups-place.ensures.values c.fill_date_groups-place.ensures.behind
    c.fill-rest.ensures.written
