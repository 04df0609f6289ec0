use Rattle.std.proofs.Common.{◌≤◌, ◌-◌, length}
use Rattle.line_devices.specs.LineParts.{HasNone}
use Rattle.line_devices.proofs.places.place_of.Given as goal

abbrev pub invariant-runs : goal.invariant-runs
invariant-runs l = record {
  after : l.from ≤ l.place;
  within : l.place ≤ length l.text;
  none : HasNone l.byte l.text l.from l.place;
}

abbrev pub decreases-runs : goal.decreases-runs
decreases-runs l = length l.text - l.place

abbrev pub invariant-bytes : goal.invariant-bytes
invariant-bytes l = record {
  after : l.from ≤ l.place;
  within : l.place ≤ length l.text;
  none : HasNone l.byte l.text l.from l.place;
}

abbrev pub decreases-bytes : goal.decreases-bytes
decreases-bytes l = length l.text - l.place
