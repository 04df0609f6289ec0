use Rattle.zone_files.proofs.WrittenLemmas.{written-back}
use Rattle.zone_files.proofs.texts.rule_text.Goals as goal

pub returns-clause-back : goal.returns-clause-back
returns-clause-back c = written-back c.args.rule (λ text. text.items) c.text_of.result c.requires c.text_of.ensures
