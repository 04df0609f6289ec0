use Rattle.muxandu_c.proofs.TextBatchLemmas.{read_by_parts}
use Rattle.muxandu_c.proofs.text_batches.date_time_of_text.Goals as goal

pub returns : goal.returns
returns c =
    read_by_parts c.args.text.now c.date_time_from_rfc3339.result c.date_time_from_rfc3339.ensures.spelled c.date_time_from_rfc3339.ensures.syntax
