use Rattle.std.proofs.Common.{ap, arith}
use Rattle.std.proofs.lemmas.Int.{ints}
use Rattle.offset_times.specs.Local.{Local}
use Rattle.offset_times.proofs.offset_date_time.OffsetDateTime.truncate_to_hour.Goals as goal

pub returns-clause-not_after : goal.returns-clause-not_after
returns-clause-not_after c = omega (arith, ints, ap (λ (at : Local). at.wall) c.replace_date_time.ensures.value)

pub returns-clause-within : goal.returns-clause-within
returns-clause-within c = omega (arith, ints, ap (λ (at : Local). at.wall) c.replace_date_time.ensures.value)
