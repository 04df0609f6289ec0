use Rattle.std.proofs.Common.{rules}
use Rattle.stamps.proofs.merges.run.Goals as goal

pub opens-init : goal.opens-init
opens-init c = record { new = rw c.new-logs.ensures.items (λ k. tt); numbers = search rules }

pub add_log-requires-clause-logs : goal.add_log-requires-clause-logs
add_log-requires-clause-logs c = c.opens.invariant.new

pub add_log-requires-clause-numbers : goal.add_log-requires-clause-numbers
add_log-requires-clause-numbers c = c.opens.invariant.numbers
