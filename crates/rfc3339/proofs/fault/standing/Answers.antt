use Rattle.std.proofs.Common.{rules}
use Rattle.rfc3339.proofs.FaultLemmas.{standing-stops, standing-goes_on, standing-all}
use Rattle.rfc3339.proofs.fault.standing.Goals as goal

pub returns-then-place-eq-NOWHERE-clause-place : goal.returns-then-place-eq-NOWHERE-clause-place
returns-then-place-eq-NOWHERE-clause-place c =
    standing-stops c.args.first c.loop-k.place c.loop-k.k c.args.text.now _ c.next_place-place.result c.loop-k-test.true c.next_place-place.ensures
    (search rules) c.loop-k.invariant.place

pub loop-k-preserved : goal.loop-k-preserved
loop-k-preserved c = record {
  place =
      standing-goes_on c.args.first c.loop-k.place c.loop-k.k c.args.text.now _ c.next_place-place.result c.loop-k-test.true c.next_place-place.ensures
      c.if-place-eq-NOWHERE.false c.loop-k.invariant.place;
}

pub returns-clause-place : goal.returns-clause-place
returns-clause-place c = standing-all c.args.first c.loop-k.place c.loop-k.k c.args.text.now (search rules) (search rules) c.loop-k.invariant.place
