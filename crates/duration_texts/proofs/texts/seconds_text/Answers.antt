use Rattle.duration_texts.proofs.WrittenLemmas.{seconds_text-derives}
use Rattle.duration_texts.proofs.texts.seconds_text.Goals as goal

pub returns-clause-back : goal.returns-clause-back
returns-clause-back c = seconds_text-derives c.args.duration c.written_seconds.result c.written_seconds.ensures.in_range c.written_seconds.ensures.text
