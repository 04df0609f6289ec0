use Rattle.std.proofs.Common.{◌≡◌, ◌≤◌, ◌-◌, length, List, ℕ, take}
use Rattle.times_bench.specs.Answers.{answers_of}
use Rattle.line_devices.specs.LineParts.{ended_from, rest_from}
use Rattle.times_bench.specs.LineParts.{Holds}
use Rattle.line_devices.specs.Writing.{Sends}
use Rattle.times_bench.proofs.lines.feed.Given as goal

abbrev pub invariant-lines : goal.invariant-lines
invariant-lines g l =
    let written = g.W.Sink.written in
    let read = take l.place l.block in
    record {
      within : l.place ≤ length l.block;
      line : (piece : List ℕ) → Holds piece l.fn.line → Holds (rest_from piece read) l.line;
      sent : (piece : List ℕ) → Holds piece l.fn.line
          → Sends (written l.fn.writer) (written l.writer) l.pending (answers_of (ended_from piece read));
      mark : g.W.Sink.is_marked l.writer ≡ g.W.Sink.is_marked l.fn.writer;
    }

abbrev pub decreases-lines : goal.decreases-lines
decreases-lines g l = length l.block - l.place
