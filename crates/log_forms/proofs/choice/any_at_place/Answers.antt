use Rattle.std.proofs.Common.{sym}
use Rattle.log_forms.proofs.ChoiceLemmas.{place_lacks}
use Rattle.log_forms.proofs.choice.any_at_place.Goals as goal

pub returns-in-None : goal.returns-in-None
returns-in-None c = place_lacks c.args.place c.args.line.now (sym c.in-None.ensures)
