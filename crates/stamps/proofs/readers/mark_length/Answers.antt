use Rattle.std.proofs.Common.{sym, ◌∙◌}
use Rattle.stamps.proofs.LongLineLemmas.{mark_long}
use Rattle.stamps.proofs.readers.mark_length.Goals as goal

pub returns-then-has_mark-clause-within : goal.returns-then-has_mark-clause-within
returns-then-has_mark-clause-within c = mark_long _ c.args.line.now (sym c.has_mark.ensures ∙ c.if-has_mark.true)
