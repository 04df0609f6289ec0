use Rattle.zone_files.specs.FileReading.{kind_fault}
use Rattle.zone_files.specs.Files.{block_parts}
use Rattle.zone_files.proofs.FaultLemmas.{first_fault-here, first_fault-next}
use Rattle.zone_files.proofs.files.kinds_fault.Goals as goal

pub returns-in-Some : goal.returns-in-Some
returns-in-Some c =
    first_fault-here (kind_fault c.args.left (block_parts c.args.block)) (c.args.count) c.kinds.k c.kind_fault.result _ c.in-Some.stop
    c.kinds-test.true c.kind_fault.ensures c.in-Some.is c.kinds.invariant

pub kinds-preserved : goal.kinds-preserved
kinds-preserved c =
    first_fault-next (kind_fault c.args.left (block_parts c.args.block)) (c.args.count) c.kinds.k c.kind_fault.result _
    c.kinds-test.true c.kind_fault.ensures c.in-None.is c.kinds.invariant
