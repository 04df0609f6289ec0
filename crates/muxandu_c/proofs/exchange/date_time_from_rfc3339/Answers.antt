use Rattle.muxandu_c.proofs.UtcTextLemmas.{parts-reading, syntax-reading}
use Rattle.muxandu_c.proofs.exchange.date_time_from_rfc3339.Goals as goal

pub returns-in-Some-clause-spelled : goal.returns-in-Some-clause-spelled
returns-in-Some-clause-spelled c =
    parts-reading c.args.text.now c.in-Some.field-0-0 c.in-Some.parts c.in-Some.ensures.reading c.in-Some.ensures.parts

pub returns-in-Some-clause-syntax : goal.returns-in-Some-clause-syntax
returns-in-Some-clause-syntax c = syntax-reading c.args.text.now c.in-Some.field-0-0 c.in-Some.parts c.in-Some.ensures.reading
