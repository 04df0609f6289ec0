use Rattle.muxandu_c.proofs.ParseFrontLemmas.{front_by-whole}
use Rattle.muxandu_c.proofs.parse_fronts.muxandu_parse_items_front.Goals as goal

pub returns-clause-same : goal.returns-clause-same
returns-clause-same c = front_by-whole c.args.kind c.args.items.now c.args.text.now
