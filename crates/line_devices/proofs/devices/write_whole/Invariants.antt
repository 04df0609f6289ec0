use Rattle.std.proofs.Common.{◌≡◌, length, ◌-◌, ◌≤◌, take}
use Rattle.std.specs.Io.KnownBytes.{Appends}
use Rattle.line_devices.proofs.devices.write_whole.Given as goal

abbrev pub invariant-loop-place : goal.invariant-loop-place
invariant-loop-place g l = record {
  within : l.place ≤ length l.text;
  written : Appends (g.W.Sink.written l.fn.writer) (g.W.Sink.written l.writer) (take l.place l.text);
  mark : g.W.Sink.is_marked l.writer ≡ g.W.Sink.is_marked l.fn.writer;
}

abbrev pub decreases-loop-place : goal.decreases-loop-place
decreases-loop-place g l = length l.text - l.place
