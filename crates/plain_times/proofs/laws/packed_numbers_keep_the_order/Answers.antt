use Rattle.plain_times.specs.PackedLemmas.{packed_wall_clock-equal, packed_wall_clock-earlier}
use Rattle.plain_times.proofs.laws.packed_numbers_keep_the_order.Goals as goal

pub returns : goal.returns
returns c = record { same = packed_wall_clock-equal; earlier = packed_wall_clock-earlier }
