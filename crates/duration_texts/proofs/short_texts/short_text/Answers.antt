use Rattle.duration_texts.proofs.ShortLemmas.{short_text-derives}
use Rattle.duration_texts.proofs.short_texts.short_text.Goals as goal

pub returns-clause-back : goal.returns-clause-back
returns-clause-back c = short_text-derives c.args.duration c.written_units.result c.written_units.ensures.in_range c.written_units.ensures.text
