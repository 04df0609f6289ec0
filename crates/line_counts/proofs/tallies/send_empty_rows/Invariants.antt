use Rattle.std.proofs.Common.{◌≡◌, ◌-◌}
use Rattle.line_counts.specs.Counting.{most}
use Rattle.line_counts.proofs.RowLemmas.{RowsSent}
use Rattle.line_counts.proofs.tallies.send_empty_rows.Given as goal

abbrev pub invariant-rows : goal.invariant-rows
invariant-rows g l =
    let written = g.W.Sink.written in
    record {
      rows : RowsSent (g.B.Buckets.counting l.buckets) l.fn.from l.to (written l.fn.writer) (written l.writer) l.fn.pending l.pending (most - l._row) l.start;
      mark : g.W.Sink.is_marked l.writer ≡ g.W.Sink.is_marked l.fn.writer;
    }
