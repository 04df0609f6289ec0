use Rattle.std.proofs.Common.{length}
use Rattle.zone_files.specs.FileReading.{index_fault}
use Rattle.zone_files.proofs.FaultLemmas.{first_fault-here, first_fault-next}
use Rattle.zone_files.proofs.files.indexes_fault.Goals as goal

pub returns-in-Some : goal.returns-in-Some
returns-in-Some c =
    first_fault-here (index_fault c.args.left c.args.count c.args.indexes.now) (length c.args.indexes.now) c.indexes.i c.index_fault.result _ c.in-Some.stop
    c.indexes-test.true c.index_fault.ensures c.in-Some.is c.indexes.invariant

pub indexes-preserved : goal.indexes-preserved
indexes-preserved c =
    first_fault-next (index_fault c.args.left c.args.count c.args.indexes.now) (length c.args.indexes.now) c.indexes.i c.index_fault.result _
    c.indexes-test.true c.index_fault.ensures c.in-None.is c.indexes.invariant
