use Rattle.stamps.specs.Decisions.{state_after}
use Rattle.stamps.proofs.watches.count_line.Goals as goal

pub returns-clause-counted : goal.returns-clause-counted
unfolding state_after
returns-clause-counted c =
    (c.line_showing-showing.result, rw c.reader-reader.ensures at c.line_showing-showing.ensures, rw c.read_stamp.ensures.state at c.after.ensures)
