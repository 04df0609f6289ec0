use Rattle.std.proofs.Common.{◌≡◌, None, length}
use Rattle.line_devices.specs.Device.{has_failed}
use Rattle.line_devices.specs.declared.devices.Device.{Device}
use Rattle.line_merges.specs.Runs.{AreNew}
use Rattle.stamps.specs.LogReadings.{first_choices}
use Rattle.stamps.specs.declared.fronted.Turned.{Turned}
use Rattle.stamps.specs.declared.sources.Input.{Input}
use Rattle.stamps.proofs.merges.run.Given as goal

-- nothing was read of the files that were opened, and each has a form or none
abbrev pub invariant-opens : goal.invariant-opens
invariant-opens l = record {
  new : AreNew first_choices (λ (device : Device (Turned Input)). None) (λ (device : Device (Turned Input)). has_failed device) l.logs.items;
  numbers : length l.instants.chosen.items ≡ length l.logs.items;
}
