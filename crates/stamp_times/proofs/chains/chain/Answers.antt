use Rattle.std.proofs.Common.{None, Some, SomeIff}
use Rattle.std.proofs.lemmas.List.{take_all, drop_all}
use Rattle.calendar_values.specs.WallClock.{IsWallClock}
use Rattle.stamp_times.specs.Travel.{held_instant, shown_by, held_by}
use Rattle.stamp_times.proofs.TravelLemmas.{held_instant-kept, held_after-more, travel-more, travel-ends}
use Rattle.stamp_times.proofs.chains.chain.Goals as goal

pub loop-index-preserved : goal.loop-index-preserved
loop-index-preserved c =
    let i = held_instant c.args.start in
    let step = c.index-steps-index.result in
    let next : SomeIff (Some c.in-Some.next) (IsWallClock (shown_by step i)) (held_by step i) = rw c.loop-index.invariant.instant at c.in-Some.ensures in
    record {
      instant = held_instant-kept _ _ _ next.1;
      here = held_after-more _ _ _ _ _ _ c.loop-index-test.true c.index-steps-index.is next.1;
      stops = travel-more _ _ _ _ c.loop-index-test.true c.index-steps-index.is next.0 c.loop-index.invariant.stops;
    }

pub returns-in-None-clause-stopped : goal.returns-in-None-clause-stopped
returns-in-None-clause-stopped c =
    let i = held_instant c.args.start in
    let step = c.index-steps-index.result in
    let none : SomeIff None (IsWallClock (shown_by step i)) (held_by step i) = rw c.loop-index.invariant.instant at c.in-None.ensures in
    travel-ends i _ _ _ c.loop-index-test.true c.index-steps-index.is none c.loop-index.invariant.stops

pub returns-in-None-clause-kept : goal.returns-in-None-clause-kept
returns-in-None-clause-kept c = c.loop-index.invariant.here

pub returns-in-None-clause-place : goal.returns-in-None-clause-place
returns-in-None-clause-place c = c.loop-index-test.true

pub returns-in-None-clause-kept_instant : goal.returns-in-None-clause-kept_instant
returns-in-None-clause-kept_instant c = c.loop-index.invariant.instant

pub returns-clause-arrived : goal.returns-clause-arrived
returns-clause-arrived c = rw (drop_all _ _ c.loop-index-test.false) at c.loop-index.invariant.stops

pub returns-clause-held : goal.returns-clause-held
returns-clause-held c = rw (take_all _ _ c.loop-index-test.false) at c.loop-index.invariant.here

pub returns-clause-instant : goal.returns-clause-instant
returns-clause-instant c = c.loop-index.invariant.instant
