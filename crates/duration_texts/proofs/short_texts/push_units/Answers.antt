use Rattle.duration_texts.proofs.ShortLemmas.{pushed-units}
use Rattle.duration_texts.proofs.short_texts.push_units.Goals as goal

pub returns-clause-text : goal.returns-clause-text
returns-clause-text c =
    pushed-units c.args.text.now c.push_count.new.text c.push_count-2.new.text c.push_count-3.new.text c.push_count-4.new.text c.push_count-5.new.text
    c.push_count-6.new.text c.push_count-7.new.text c.args.seconds c.args.nanoseconds c.requires.nanoseconds c.push_count.ensures.text
    c.push_count-2.ensures.text c.push_count-3.ensures.text c.push_count-4.ensures.text c.push_count-5.ensures.text c.push_count-6.ensures.text
    c.push_count-7.ensures.text
