use Rattle.std.proofs.Common.{ℤ, pos, ◌+ℤ◌, Bor, rules, sym, ap, ◌∙◌}
use Rattle.std.proofs.lemmas.List.Sums.{fold_push}
use Rattle.std.proofs.iter.Next as it
use Rattle.calendar_values.specs.Durations.{IsDuration}
use Rattle.calendar_values.proofs.signed_duration.totals.total_of_references.Goals as goal

pub loop-duration-init : goal.loop-duration-init
loop-duration-init g c = it.begun (search tt) (search tt) (search rules)

pub next-requires : goal.next-requires
next-requires g c = search (rules, c.loop-duration.invariant.callable)

pub add-sum-requires : goal.add-sum-requires
add-sum-requires g c =
    it.fits_next g.I.Iterator.next_gives (λ (a : ℤ). λ (x : Bor ℤ). a +ℤ x.now) IsDuration (pos 0) c.loop-duration.sum c.in-Some.duration
    c.loop-duration.invariant.seen c.loop-duration.invariant.holds c.requires.fits c.loop-duration.invariant.gave
    (it.said g.I.Iterator.next_gives c.in-Some.is c.next.ensures.steps)

pub loop-duration-preserved : goal.loop-duration-preserved
loop-duration-preserved g c =
    it.again c.loop-duration.invariant c.in-Some.duration c.in-Some.is (c.next.ensures.steps, c.next.ensures.goes)
    (c.add-sum.ensures ∙ ap (λ k. k +ℤ c.in-Some.duration.now) c.loop-duration.invariant.holds
    ∙ sym (fold_push (λ (a : ℤ). λ (x : Bor ℤ). a +ℤ x.now) (pos 0) c.loop-duration.invariant.seen c.in-Some.duration))

pub loop-duration-smaller : goal.loop-duration-smaller
loop-duration-smaller g c = it.less c.loop-duration.invariant c.in-Some.duration c.in-Some.is c.next.ensures.goes

pub returns : goal.returns
returns g c =
    (c.loop-duration.invariant.seen, (λ _. it.drained c.loop-duration.invariant c.in_default.is c.next.ensures.steps), c.loop-duration.invariant.holds)
