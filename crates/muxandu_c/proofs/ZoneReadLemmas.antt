-- The transitions of a file in a table.
use Rattle.std.proofs.Common.{◌≡◌, ◌≤◌, ◌∙◌, ℕ, List, length, take}
use Rattle.std.proofs.lemmas.List.{length-take-le}
use Rattle.zones.specs.declared.transition.Transition.{Transition}
use Rattle.zone_files.specs.FileReading.{FileParts}
use Rattle.zone_files.specs.FileZones.{AreAllRows}
use Rattle.zone_files.specs.Kinds.{AreRows}

-- as many transitions as a file has are all of them
pub all_rows : (file : FileParts) (room : List Transition) (n : ℕ) → n ≡ length file.block.indexes → n ≤ length room → AreRows file (take n room)
    → AreAllRows file (take n room)
all_rows file room n e le rows = record { each = rows; count = length-take-le n room le ∙ e }
