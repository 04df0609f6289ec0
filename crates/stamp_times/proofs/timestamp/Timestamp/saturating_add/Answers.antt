use Rattle.plain_times.specs.SumLemmas.{IsSaturatingSum-in, IsSaturatingSum-end}
use Rattle.stamp_times.proofs.timestamp.Timestamp.saturating_add.Goals as goal

pub returns-in-Some : goal.returns-in-Some
returns-in-Some c = IsSaturatingSum-in _ _ _ c.as_seconds-in_range.ensures.self_in_range c.in-Some.ensures.0 c.in-Some.ensures.1

pub returns-in-None : goal.returns-in-None
returns-in-None c =
    IsSaturatingSum-end _ _ _ c.is_negative.result c.as_seconds-in_range.ensures.self_in_range c.in-None.ensures c.is_negative.ensures
    (rw c.if-is_negative.true)

pub returns-in-None-2 : goal.returns-in-None-2
returns-in-None-2 c =
    IsSaturatingSum-end _ _ _ c.is_negative.result c.as_seconds-in_range.ensures.self_in_range c.in-None.ensures c.is_negative.ensures
    (rw c.if-is_negative.false)
