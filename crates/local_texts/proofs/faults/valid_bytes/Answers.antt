use Rattle.std.proofs.Common.{rules}
use Rattle.local_texts.proofs.FaultLemmas.{valid_bytes-stops, valid_bytes-goes_on, valid_bytes-all}
use Rattle.local_texts.proofs.faults.valid_bytes.Goals as goal

pub returns-then-not-is_valid_at-clause-count : goal.returns-then-not-is_valid_at-clause-count
returns-then-not-is_valid_at-clause-count c =
    valid_bytes-stops c.args.place c.loop-k.k c.args.text.now _ c.is_valid_at.result c.loop-k-test.true c.is_valid_at.ensures c.if-not-is_valid_at.true
    c.loop-k.invariant.count

pub loop-k-preserved : goal.loop-k-preserved
loop-k-preserved c = record {
  count =
      valid_bytes-goes_on c.args.place c.loop-k.k c.args.text.now _ c.is_valid_at.result c.loop-k-test.true c.is_valid_at.ensures
      c.if-not-is_valid_at.false c.loop-k.invariant.count;
}

pub returns-clause-count : goal.returns-clause-count
returns-clause-count c = valid_bytes-all c.args.place c.loop-k.k c.args.text.now (search rules) (search rules) c.loop-k.invariant.count
