use Rattle.std.proofs.Common.{◌≡◌, ℕ, ◌<◌, ◌≤◌, false, length, Some}
use Rattle.line_merges.specs.Runs.{log_states, output}
use Rattle.line_merges.specs.Steps.{AreKnown, IsKnown, Stands, fronts_of, readings_now}
use Rattle.line_merges.specs.declared.logs.Front.{Front}
use Rattle.line_merges.proofs.merges.merge.Given as goal

abbrev pub invariant-firsts : goal.invariant-firsts
invariant-firsts g l =
    let instant = g.I.Instants.reading l.instants in
    let states = log_states g.R.Source.left g.R.Source.is_marked in
    let before = output (g.W.Sink.written l.fn.writer) (g.W.Sink.is_marked l.fn.writer) in
    let at = output (g.W.Sink.written l.writer) (g.W.Sink.is_marked l.writer) in
    record {
      stands : Stands instant l.is_strict (states l.fn.logs) (states l.logs) before at l.pending false;
      known : (j : ℕ) (front : Front) → j < l.k → fronts_of (states l.logs) j ≡ Some front → IsKnown (readings_now instant (states l.logs) j) l.is_strict
          (Some front);
    }

abbrev pub invariant-lines : goal.invariant-lines
invariant-lines g l =
    let instant = g.I.Instants.reading l.instants in
    let states = log_states g.R.Source.left g.R.Source.is_marked in
    let before = output (g.W.Sink.written l.fn.writer) (g.W.Sink.is_marked l.fn.writer) in
    let at = output (g.W.Sink.written l.writer) (g.W.Sink.is_marked l.writer) in
    (stands : Stands instant l.is_strict (states l.fn.logs) (states l.logs) before at l.pending l.is_open) × record {
      number : l._line ≤ length stands.out;
      known : AreKnown (readings_now instant (states l.logs)) l.is_strict (fronts_of (states l.logs));
    }
