-- The sum so far is that of the durations so far.
use Rattle.std.specs.Prelude.{◌≡◌, pos, ◌+ℤ◌}
use Rattle.std.specs.List.{fold}
use Rattle.std.specs.Iterator.{EndsFrom, items_left}
use Rattle.std.proofs.iter.Next as it
use Rattle.calendar_values.proofs.signed_duration.totals.total_of_references.Given as goal

abbrev pub invariant-loop-duration : goal.invariant-loop-duration
invariant-loop-duration g l =
    it.Ran g.I.Iterator.can_next (EndsFrom g.I.Iterator.remaining) (items_left g.I.Iterator.remaining) g.I.Iterator.next_gives
    (λ xs. l.sum ≡ fold (λ sum x. sum +ℤ x.now) (pos 0) xs) l.initial.durations l.durations

abbrev pub decreases-loop-duration : goal.decreases-loop-duration
decreases-loop-duration g l = items_left g.I.Iterator.remaining l.durations
