use Rattle.muxandu_c.proofs.zone_numbers.read_cycle.Goals as goal

pub returns-in_default-clause-none : goal.returns-in_default-clause-none
returns-in_default-clause-none c = λ k is. c.in_default.ensures.none k.first k.after_first is.first_is

pub returns-in_default-read_second-clause-none : goal.returns-in_default-read_second-clause-none
returns-in_default-read_second-clause-none c = λ k is. c.in_default-read_second.ensures.none k.second k.after_second is.second_is
