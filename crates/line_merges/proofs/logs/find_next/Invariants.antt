use Rattle.std.proofs.Common.{◌-◌, cond, length}
use Rattle.line_devices.specs.Device.{devices}
use Rattle.line_merges.proofs.ReadLemmas.{Finds}
use Rattle.line_merges.proofs.logs.find_next.Given as goal

abbrev pub invariant-reads : goal.invariant-reads
invariant-reads g l =
    let left = g.R.Source.left in
    let written = g.W.Sink.written in
    let read_failed = g.R.Source.is_marked in
    let write_failed = g.W.Sink.is_marked in
    Finds l.fn.front l.front (devices (left l.fn.reader) (written l.fn.writer) (read_failed l.fn.reader) (write_failed l.fn.writer))
    (devices (left l.reader) (written l.writer) (read_failed l.reader) (write_failed l.writer)) l.fn.pending l.pending

abbrev pub decreases-reads : goal.decreases-reads
decreases-reads g l = cond l.front.is_ended 0 (65537 - length l.front.buffer)
