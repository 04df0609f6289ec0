use Rattle.std.proofs.Common.{◌≡◌, ◌≤◌, ◌-◌, ◌++◌, length, List, ℕ, take, Option}
use Rattle.line_counts.specs.Progress.{Stands}
use Rattle.line_counts.proofs.lines.feed.Given as goal

abbrev pub invariant-lines : goal.invariant-lines
invariant-lines g l =
    let written = g.W.Sink.written in
    let counting = g.B.Buckets.counting l.buckets in
    record {
      within : l.place ≤ length l.block;
      stands : (base : Option (List ℕ)) (taken : List ℕ) → Stands counting l.is_strict base (written l.fn.writer) l.fn.pending l.fn.work taken
          → Stands counting l.is_strict base (written l.writer) l.pending l.work (taken ++ take l.place l.block);
      mark : g.W.Sink.is_marked l.writer ≡ g.W.Sink.is_marked l.fn.writer;
    }

abbrev pub decreases-lines : goal.decreases-lines
decreases-lines g l = length l.block - l.place
