use Rattle.std.proofs.Common.{rules}
use Rattle.std.specs.Int.{w128}
use Rattle.std.proofs.lemmas.Int.{to_z-of_z}
use Rattle.format_descriptions.proofs.InstantBounds.{instant_below}
use Rattle.format_descriptions.proofs.unix.nanoseconds.Goals as goal

pub returns-clause-below : goal.returns-clause-below
returns-clause-below c =
    rw (to_z-of_z w128 c.unix_timestamp_nanos.result (search rules))
    (instant_below c.new_in_offset-at.result _ c.unix_timestamp_nanos.ensures c.date_time-in_range.ensures.self_in_range)
