use Rattle.std.proofs.Common.{rules, arith}
use Rattle.times_bench.proofs.AnswerLemmas.{told-more, told-all, last_instant-more, last_instant-all}
use Rattle.times_bench.proofs.answers.replies_of.Goals as goal

pub loop-call-preserved : goal.loop-call-preserved
loop-call-preserved c = record {
  put = told-more _ _ _ _ _ _ _ _ c.loop-call-test.true c.call-item.is c.put_reply-at.ensures.next c.put_reply-at.ensures.text c.loop-call.invariant.put;
  ends = last_instant-more _ _ _ _ _ _ c.loop-call-test.true c.call-item.is c.put_reply-at.ensures.next c.loop-call.invariant.ends;
  count = omega arith;
  room = omega arith;
}

pub returns-clause-replies : goal.returns-clause-replies
returns-clause-replies c = told-all _ _ _ c.args.calls.now c.loop-call.call-index (search rules) c.loop-call.invariant.put

pub returns-clause-last : goal.returns-clause-last
returns-clause-last c = last_instant-all _ _ c.args.calls.now c.loop-call.call-index (search rules) c.loop-call.invariant.ends
