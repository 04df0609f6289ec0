use Rattle.std.proofs.Common.{ap, ◌∙◌}
use Rattle.stamp_times.specs.declared.chains.steps.Held.TheVariants.{Stamp, Utc, Offset}
use Rattle.stamp_times.proofs.chains.held_by.Goals as goal

pub returns-in_err-in_utc-in-ToStamp : goal.returns-in_err-in_utc-in-ToStamp
returns-in_err-in_utc-in-ToStamp c = rw (c.in-ToStamp.is, c.from_residual.ensures) c.in_err-in_utc-in-ToStamp.ensures

pub returns-in_err-in_utc-in-ToUtc : goal.returns-in_err-in_utc-in-ToUtc
returns-in_err-in_utc-in-ToUtc c = rw (c.in-ToUtc.is, c.from_residual-in_err-in_utc-in-ToUtc.ensures) c.in_err-in_utc-in-ToUtc.ensures

pub returns-in_err-held_at_offset-in-ToOffset : goal.returns-in_err-held_at_offset-in-ToOffset
returns-in_err-held_at_offset-in-ToOffset c =
    rw (c.in-ToOffset.is, c.from_residual-in_err-held_at_offset-in-ToOffset.ensures) c.in_err-held_at_offset-in-ToOffset.ensures

pub returns-in_ok-in_utc-in-ToStamp : goal.returns-in_ok-in_utc-in-ToStamp
returns-in_ok-in_utc-in-ToStamp c =
    let at = c.in_ok-in_utc-in-ToStamp.ensures in
    rw c.in-ToStamp.is (at.0, ap Stamp (c.from.ensures ∙ at.1))

pub returns-in_ok-in_utc-in-ToUtc : goal.returns-in_ok-in_utc-in-ToUtc
returns-in_ok-in_utc-in-ToUtc c =
    let at = c.in_ok-in_utc-in-ToUtc.ensures in
    rw c.in-ToUtc.is (at.0, ap Utc at.1)

pub returns-in_ok-held_at_offset-in-ToOffset : goal.returns-in_ok-held_at_offset-in-ToOffset
returns-in_ok-held_at_offset-in-ToOffset c =
    let at = c.in_ok-held_at_offset-in-ToOffset.ensures in
    rw c.in-ToOffset.is (at.0, ap Offset at.1)
