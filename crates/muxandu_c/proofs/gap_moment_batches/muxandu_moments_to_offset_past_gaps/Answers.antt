use Rattle.std.proofs.Common.{to_z-of_z}
use Rattle.muxandu_c.proofs.gap_moment_batches.muxandu_moments_to_offset_past_gaps.Goals as goal

pub returns-clause-count : goal.returns-clause-count
returns-clause-count c = rw (to_z-of_z c.ranges.offset_seconds) at c.convert_past_gaps.ensures.count

pub returns-clause-status : goal.returns-clause-status
returns-clause-status c = rw (to_z-of_z c.ranges.offset_seconds) at c.convert_past_gaps.ensures.status

pub returns-clause-written : goal.returns-clause-written
returns-clause-written c = rw (to_z-of_z c.ranges.offset_seconds) at c.convert_past_gaps.ensures.written
