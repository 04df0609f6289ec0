use Rattle.std.proofs.Common.{rules}
use Rattle.zone_files.specs.Pieces.{is_of}
use Rattle.zone_files.proofs.PieceLemmas.{front-stops, front-goes_on, front-all}
use Rattle.zone_files.proofs.pieces.count.Goals as goal

pub returns-then-not-is_of-clause-count : goal.returns-then-not-is_of-clause-count
returns-then-not-is_of-clause-count c =
    front-stops (is_of c.args.kind) c.loop-k.k c.args.text.now _ c.is_of.result c.loop-k-test.true c.is_of.ensures c.if-not-is_of.true c.loop-k.invariant.count

pub loop-k-preserved : goal.loop-k-preserved
loop-k-preserved c = record {
  count =
      front-goes_on (is_of c.args.kind) c.loop-k.k c.args.text.now _ c.is_of.result c.loop-k-test.true c.is_of.ensures c.if-not-is_of.false
      c.loop-k.invariant.count;
}

pub returns-clause-count : goal.returns-clause-count
returns-clause-count c = front-all (is_of c.args.kind) c.loop-k.k c.args.text.now (search rules) (search rules) c.loop-k.invariant.count
