use Rattle.std.proofs.Common.{rules}
use Rattle.muxandu_c.proofs.ZoneNumberLemmas.{days_alike}
use Rattle.muxandu_c.proofs.zone_numbers.read_second.Goals as goal

pub returns-in_default-moment_on-clause-none : goal.returns-in_default-moment_on-clause-none
returns-in_default-moment_on-clause-none c = λ m t is.
    let alike = days_alike _ _ _ _ _ m.day c.in-Some.day is.day_is c.in-Some.ensures.some in
    c.in_default-moment_on.ensures.none m alike (search (rules, is.time_is))
