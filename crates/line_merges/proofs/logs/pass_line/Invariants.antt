use Rattle.line_devices.specs.Device.{devices}
use Rattle.line_merges.proofs.PassLemmas.{Passing}
use Rattle.line_merges.proofs.logs.pass_line.Given as goal

abbrev pub invariant-parts : goal.invariant-parts
invariant-parts g l =
    let left = g.R.Source.left in
    let written = g.W.Sink.written in
    let read_failed = g.R.Source.is_marked in
    let write_failed = g.W.Sink.is_marked in
    Passing l.fn.front l.front (devices (left l.fn.reader) (written l.fn.writer) (read_failed l.fn.reader) (write_failed l.fn.writer))
    (devices (left l.reader) (written l.writer) (read_failed l.reader) (write_failed l.writer)) l.fn.pending l.pending l._read
