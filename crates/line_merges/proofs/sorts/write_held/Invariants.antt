use Rattle.std.proofs.Common.{◌≡◌, ◌≤◌, ◌-◌, List, ℕ, ◌++◌, drop, length}
use Rattle.line_devices.specs.Writing.{Sends}
use Rattle.line_merges.specs.Sorts.{held_text}
use Rattle.line_merges.proofs.sorts.write_held.Given as goal

abbrev pub invariant-lines : goal.invariant-lines
invariant-lines g l = record {
  within : l.place ≤ length l.held;
  sent : (text : List ℕ) × Sends (g.W.Sink.written l.fn.writer) (g.W.Sink.written l.writer) l.pending text
      × (text ++ held_text (drop l.place l.held) ≡ held_text l.held);
  mark : g.W.Sink.is_marked l.writer ≡ g.W.Sink.is_marked l.fn.writer;
}

abbrev pub decreases-lines : goal.decreases-lines
decreases-lines g l = length l.held - l.place
