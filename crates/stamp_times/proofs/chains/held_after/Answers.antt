use Rattle.stamp_times.specs.Travel.{held_instant}
use Rattle.stamp_times.proofs.FarInsideLemmas.{IsFarInside-step}
use Rattle.stamp_times.proofs.TravelLemmas.{held_instant-kept, travel-more, held_after-last, held_by-some, held_by-is_some}
use Rattle.stamp_times.proofs.chains.held_after.Goals as goal

pub loop-step-preserved : goal.loop-step-preserved
loop-step-preserved c =
    let i = held_instant c.args.start in
    travel-more i _ _ _ c.loop-step-test.true c.step-item.is (IsFarInside-step i _ c.requires c.be_in_range.ensures) c.loop-step.invariant

pub unwrap-requires : goal.unwrap-requires
unwrap-requires c =
    let i = held_instant c.args.start in
    held_by-is_some _ i c.in-Some.last.now (IsFarInside-step i _ c.requires c.be_in_range-2.ensures) c.held_by.ensures

pub returns-clause-held : goal.returns-clause-held
returns-clause-held c =
    let i = held_instant c.args.start in
    let next = held_by-some c.held_by.result c.unwrap.result i c.in-Some.last.now c.held_by.ensures c.unwrap.ensures in
    held_after-last c.args.start c.unwrap.result i c.args.steps.now _ c.in-Some.last.now c.in-Some.ensures.cases.0 next

pub returns-clause-instant : goal.returns-clause-instant
returns-clause-instant c =
    let i = held_instant c.args.start in
    held_instant-kept c.unwrap.result c.in-Some.last.now i
    (held_by-some c.held_by.result c.unwrap.result i c.in-Some.last.now c.held_by.ensures c.unwrap.ensures)
