use Rattle.std.proofs.Common.{sym}
use Rattle.offset_times.specs.Local.{instant_of}
use Rattle.format_descriptions.proofs.DateTimeLemmas.{stand_in_found}
use Rattle.format_descriptions.proofs.date_time_values.with_mark.Goals as goal

pub returns-then-is_leap_stand_in-clause-marked : goal.returns-then-is_leap_stand_in-clause-marked
returns-then-is_leap_stand_in-clause-marked c = λ is. stand_in_found (instant_of c.args.at) (sym c.if-is_leap_stand_in.ensures)
