use Rattle.std.proofs.Common.{[], subst}
use Rattle.zones.specs.declared.time_type.TimeType.{TimeType}
use Rattle.zones.specs.Zones.{NeverJoined}
use Rattle.zones.proofs.JoinedLemmas.{none_forward, rule_joins}
use Rattle.zones.proofs.zone.Zone.of_rule.Goals as goal

pub tail_after-requires : goal.tail_after-requires
tail_after-requires c = none_forward _

pub returns-in-None-clause-none : goal.returns-in-None-clause-none
returns-in-None-clause-none c = λ runs.
    rule_joins c.args.rule runs (subst (λ (k : TimeType). NeverJoined k [] c.args.rule) c.type_before-first.ensures c.in-None.ensures.none)
