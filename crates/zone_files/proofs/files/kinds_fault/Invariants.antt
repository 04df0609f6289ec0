use Rattle.std.proofs.Common.{◌≡◌, ◌-◌}
use Rattle.zone_files.specs.FileReading.{first_fault, kind_fault}
use Rattle.zone_files.specs.Files.{block_parts}
use Rattle.zone_files.proofs.files.kinds_fault.Given as goal

-- the faults from here on are all that there are
abbrev pub invariant-kinds : goal.invariant-kinds
invariant-kinds l =
    first_fault (kind_fault l.left (block_parts l.block)) (l.count - l.k) l.k ≡ first_fault (kind_fault l.left (block_parts l.block)) l.count 0
