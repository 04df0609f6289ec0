use Rattle.std.proofs.Common.{List, ℕ, ◌<◌, ◌≤◌, length}
use Rattle.line_devices.specs.Device.{devices}
use Rattle.line_counts.specs.Turns.{GoesOn}
use Rattle.line_counts.proofs.counts.count.Given as goal

abbrev pub invariant-reads : goal.invariant-reads
invariant-reads g l =
    let left = g.R.Source.left in
    let written = g.W.Sink.written in
    let read_failed = g.R.Source.is_marked in
    let write_failed = g.W.Sink.is_marked in
    let first = devices (left l.fn.reader) (written l.fn.writer) (read_failed l.fn.reader) (write_failed l.fn.writer) in
    (taken : List ℕ) × record {
      turns : l._turn ≤ length taken;
      block : 0 < length l.block;
      goes_on : GoesOn (g.B.Buckets.counting l.buckets) l.is_strict first
          (devices (left l.reader) (written l.writer) (read_failed l.reader) (write_failed l.writer)) l.pending l.work taken;
    }
