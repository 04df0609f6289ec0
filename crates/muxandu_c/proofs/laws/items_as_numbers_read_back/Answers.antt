use Rattle.muxandu_c.proofs.DescriptionFitLemmas.{item-of_numbers}
use Rattle.muxandu_c.proofs.DescriptionItemLemmas.{item-again, items-again, item-no_kind, items-refused}
use Rattle.muxandu_c.proofs.laws.items_as_numbers_read_back.Goals as goal

pub returns : goal.returns
returns c = record { item = item-again; items = items-again; fits = item-of_numbers; no_kind = item-no_kind; refused = items-refused }
