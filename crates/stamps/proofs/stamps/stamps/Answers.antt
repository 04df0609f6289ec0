use Rattle.std.proofs.Common.{◌≡◌, Result, Ok, Err, arith, []}
use Rattle.std.specs.Prelude.{IfOk, IsErrAnd}
use Rattle.line_devices.specs.FaultLemmas.{OnOk-fault}
use Rattle.stamps.proofs.TurnLemmas.{GoesOn-first, reads_end, Turns-end, Turns-longer, Stops-by}
use Rattle.line_devices.specs.declared.stamp_tallies.StampTally.{StampTally}
use Rattle.stamps.specs.declared.finding.Finding.{Finding}
use Rattle.stamps.specs.declared.stamps.StampFault.{StampFault}
use Rattle.stamps.specs.declared.stamps.StampFault.TheVariants.{Read, Write, Found}
use Rattle.stamps.proofs.stamps.stamps.Goals as goal

no_fault : (tally : StampTally) (fault : StampFault) → ◌≡◌ {A = Result StampTally StampFault} (Ok tally) (Err fault) → ⊥
no_fault tally fault is = cc

-- a failed read is no other fault
no_write : ◌≡◌ {A = Result StampTally StampFault} (Err Read) (Err Write) → ⊥
no_write is = cc

no_found : (found : Finding) → ◌≡◌ {A = Result StampTally StampFault} (Err Read) (Err (Found found)) → ⊥
no_found found is = cc

-- a condition on the tally alone is true of a fault
IfOk-fault : (P : StampTally → Type 0) (Q : StampFault → Type 0) (result : Result StampTally StampFault) → IsErrAnd result Q → IfOk result P
IfOk-fault P Q (Ok tally) made = absurd made
IfOk-fault P Q (Err fault) made = tt

pub reads-init : goal.reads-init
reads-init g c = (
  [],
  record {
    turns = omega arith;
    block = omega arith;
    goes_on = GoesOn-first c.args.task.now _ c.new-pending.result c.args.work.now c.requires.reader c.requires.writer c.new-pending.ensures
        c.requires.state c.requires.progress c.requires.head;
  },
)

pub take_block-requires-clause-pending : goal.take_block-requires-clause-pending
take_block-requires-clause-pending g c = c.reads.invariant.1.goes_on.empty

pub reads-preserved : goal.reads-preserved
reads-preserved g c =
    let so_far = c.reads.invariant in
    let turns = c.in_ok-count.ensures _ so_far.0 so_far.1.goes_on in
    let more = Turns-longer c.args.task.now _ _ _ _ so_far.0 _ c.if-count-eq0.false turns in (
      more.0,
      record { turns = omega (arith, so_far.1.turns, more.1); block = rw c.take_block.auto.block so_far.1.block; goes_on = more.2 },
    )

pub returns-in_err-count : goal.returns-in_err-count
returns-in_err-count g c =
    let so_far = c.reads.invariant in
    let made = c.from_residual.ensures.1 in
    let stops = c.in_err-count.ensures _ so_far.0 so_far.1.goes_on in
    let by = λ (ended : StampFault). Stops-by c.args.task.now _ _ c.from_residual.result _ ended made stops in
    record {
      end = OnOk-fault _ _ c.from_residual.result made;
      written = OnOk-fault _ _ c.from_residual.result made;
      state = OnOk-fault _ _ c.from_residual.result made;
      tally = IfOk-fault _ _ c.from_residual.result made;
      no_read_failed = OnOk-fault _ _ c.from_residual.result made;
      no_write_failed = OnOk-fault _ _ c.from_residual.result made;
      read = λ is. (by Read is).read_failed;
      as_read = λ is. (by Read is).written;
      only_a_read = λ is. (by Read is).no_write_failed;
      write = λ is. (by Write is).write_failed;
      beginning = λ is. (by Write is).written;
      only_a_write = λ is. (by Write is).no_read_failed;
      found = λ found is. (by (Found found) is).found_in;
      no_call_failed = λ found is. ((by (Found found) is).no_read_failed, (by (Found found) is).no_write_failed);
    }

pub returns-then-count-eq0 : goal.returns-then-count-eq0
returns-then-count-eq0 g c =
    let so_far = c.reads.invariant in
    let turns = c.in_ok-count.ensures _ so_far.0 so_far.1.goes_on in
    let all = Turns-end c.args.task.now _ _ _ _ so_far.0 _ c.if-count-eq0.true turns in
    record {
      end = all.none_left;
      written = all.written;
      state = all.end;
      tally = all.tally;
      no_read_failed = all.no_read_failed;
      no_write_failed = all.no_write_failed;
      read = λ is. absurd (no_fault _ _ is);
      as_read = λ is. absurd (no_fault _ _ is);
      only_a_read = λ is. absurd (no_fault _ _ is);
      write = λ is. absurd (no_fault _ _ is);
      beginning = λ is. absurd (no_fault _ _ is);
      only_a_write = λ is. absurd (no_fault _ _ is);
      found = λ found is. absurd (no_fault _ _ is);
      no_call_failed = λ found is. absurd (no_fault _ _ is);
    }

pub returns : goal.returns
returns g c =
    let so_far = c.reads.invariant in
    let stops = reads_end c.args.task.now _ _ _ _ so_far.0 _ so_far.1.goes_on so_far.1.turns c.reads-test.false in
    record {
      end = tt;
      written = tt;
      state = tt;
      tally = tt;
      no_read_failed = tt;
      no_write_failed = tt;
      read = λ _. stops.read_failed;
      as_read = λ _. stops.written;
      only_a_read = λ _. stops.no_write_failed;
      write = λ is. absurd (no_write is);
      beginning = λ is. absurd (no_write is);
      only_a_write = λ is. absurd (no_write is);
      found = λ found is. absurd (no_found found is);
      no_call_failed = λ found is. absurd (no_found found is);
    }
