use Rattle.std.proofs.Common.{◌∙◌}
use Rattle.zone_files.specs.Rules.{rule_parts}
use Rattle.zone_files.proofs.RuleLemmas.{read-derived, rule_of-again}
use Rattle.zone_files.proofs.rules.parse_rule.Goals as goal

pub returns-clause-derived : goal.returns-clause-derived
returns-clause-derived c = read-derived c.args.text.now rule_parts c.reading.result c.reading.ensures.reading

pub returns-clause-all : goal.returns-clause-all
returns-clause-all c rule h = c.reading.ensures.reading ∙ rule_of-again c.args.text.now rule h
