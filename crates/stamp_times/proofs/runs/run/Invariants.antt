use Rattle.std.proofs.Common.{◌≡◌, vec_len, vec_capacity, length, ◌++◌, drop, ◌≤◌}
use Rattle.stamp_times.specs.Counter.{replies, last_instant}
use Rattle.stamp_times.proofs.runs.run.Given as goal

-- the replies so far and those to the calls that are left are the replies to all, and each call that is left has room for its reply
abbrev pub invariant-loop-call : goal.invariant-loop-call
invariant-loop-call g l =
    let instant = g.M.Moment.instant in
    record {
      replied : l.replies.items ++ replies (instant l.held) (drop l.call-index l.calls) ≡ replies (instant l.fn.start) l.calls;
      ends : last_instant (instant l.held) (drop l.call-index l.calls) ≡ last_instant (instant l.fn.start) l.calls;
      count : vec_len l.replies ≡ l.call-index;
      room : length l.calls ≤ vec_capacity l.replies;
    }
