use Rattle.log_forms.proofs.RangeLemmas.{shown_if_any-of}
use Rattle.log_forms.proofs.years.shown_at.Goals as goal

pub returns : goal.returns
returns c = shown_if_any-of c.args.instant c.args.offset c.checked_to_offset.result c.checked_to_offset.ensures.value
