use Rattle.std.proofs.Common.{◌≡◌, ◌≤◌, ◌*◌, ◌++◌, length, drop, flat_map, vec_len, vec_capacity}
use Rattle.stamp_times.specs.Counter.{replies, last_instant}
use Rattle.times_bench.proofs.AnswerLemmas.{ended, told}
use Rattle.times_bench.proofs.answers.replies_of.Given as goal

-- the replies so far and those to the calls that are left are the replies to all, and each call that is left has room for its reply
abbrev pub invariant-loop-call : goal.invariant-loop-call
invariant-loop-call l = record {
  put : l.replies.items ++ told l.at l.calls l.call-index ≡ flat_map ended (replies l.fn.start l.calls);
  ends : last_instant l.at (drop l.call-index l.calls) ≡ last_instant l.fn.start l.calls;
  count : vec_len l.replies ≤ 64 * l.call-index;
  room : 64 * length l.calls ≤ vec_capacity l.replies;
}
