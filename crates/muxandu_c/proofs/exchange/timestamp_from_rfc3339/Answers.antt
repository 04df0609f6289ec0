use Rattle.muxandu_c.proofs.UtcTextLemmas.{timestamp-reading, syntax-reading}
use Rattle.muxandu_c.proofs.exchange.timestamp_from_rfc3339.Goals as goal

pub returns-in-Some-clause-spelled : goal.returns-in-Some-clause-spelled
returns-in-Some-clause-spelled c =
    timestamp-reading c.args.text.now c.in-Some.at c.instant_in_range.result c.timestamp_of.result c.in-Some.ensures.reading c.instant_in_range.ensures
    c.timestamp_of.ensures

pub returns-in-Some-clause-syntax : goal.returns-in-Some-clause-syntax
returns-in-Some-clause-syntax c = syntax-reading c.args.text.now c.in-Some.at c.timestamp_of.result c.in-Some.ensures.reading

pub returns-in-Some-read_wall_text-clause-spelled : goal.returns-in-Some-read_wall_text-clause-spelled
returns-in-Some-read_wall_text-clause-spelled c =
    timestamp-reading c.args.text.now _ c.instant_in_range_at.result c.timestamp_of-in-Some-read_wall_text.result
    c.in-Some-read_wall_text.ensures.reading c.instant_in_range_at.ensures c.timestamp_of-in-Some-read_wall_text.ensures

pub returns-in-Some-read_wall_text-clause-syntax : goal.returns-in-Some-read_wall_text-clause-syntax
returns-in-Some-read_wall_text-clause-syntax c =
    syntax-reading c.args.text.now _ c.timestamp_of-in-Some-read_wall_text.result c.in-Some-read_wall_text.ensures.reading
