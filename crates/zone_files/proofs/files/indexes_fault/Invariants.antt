use Rattle.std.proofs.Common.{◌≡◌, ◌-◌, length}
use Rattle.zone_files.specs.FileReading.{first_fault, index_fault}
use Rattle.zone_files.proofs.files.indexes_fault.Given as goal

-- the faults from here on are all that there are
abbrev pub invariant-indexes : goal.invariant-indexes
invariant-indexes l =
    first_fault (index_fault l.left l.count l.indexes) (length l.indexes - l.i) l.i ≡ first_fault (index_fault l.left l.count l.indexes) (length l.indexes) 0
