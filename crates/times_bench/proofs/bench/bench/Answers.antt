use Rattle.std.proofs.Common.{◌≡◌, Result, Ok, Err, arith, []}
use Rattle.line_devices.specs.FaultLemmas.{OnOk-fault}
use Rattle.times_bench.proofs.TurnLemmas.{Stands-first, reads_end, Turns-end, Turns-longer, Stops-by}
use Rattle.times_bench.specs.declared.bench.BenchFault.{BenchFault}
use Rattle.times_bench.specs.declared.bench.BenchFault.TheVariants.{Read, Write, Memory}
use Rattle.times_bench.proofs.bench.bench.Goals as goal

no_fault : (fault : BenchFault) → ◌≡◌ {A = Result Unit BenchFault} (Ok tt) (Err fault) → ⊥
no_fault fault is = cc

-- a failed read is no other fault
no_write : ◌≡◌ {A = Result Unit BenchFault} (Err Read) (Err Write) → ⊥
no_write is = cc

no_memory : ◌≡◌ {A = Result Unit BenchFault} (Err Read) (Err Memory) → ⊥
no_memory is = cc

pub reads-init : goal.reads-init
reads-init g c = (
  [],
  record {
    turns = omega arith;
    block = omega arith;
    stands = Stands-first _ _ _ c.requires.reader c.requires.writer c.new-pending.ensures c.new-line.ensures;
  },
)

pub answer_block-requires-clause-pending : goal.answer_block-requires-clause-pending
answer_block-requires-clause-pending g c = c.reads.invariant.1.stands.empty

pub reads-preserved : goal.reads-preserved
reads-preserved g c =
    let so_far = c.reads.invariant in
    let more = Turns-longer _ _ _ _ so_far.0 _ c.if-count-eq0.false (c.in_ok-count.ensures _ so_far.0 so_far.1.stands) in (
      more.0,
      record {
        turns = omega (arith, so_far.1.turns, more.1);
        block = rw c.answer_block.auto.block so_far.1.block;
        stands = more.2;
      },
    )

pub returns-in_err-count : goal.returns-in_err-count
returns-in_err-count g c =
    let so_far = c.reads.invariant in
    let made = c.from_residual.ensures.1 in
    let stops = c.in_err-count.ensures _ so_far.0 so_far.1.stands in
    let by = λ (ended : BenchFault). Stops-by _ _ c.from_residual.result _ ended made stops in
    record {
      end = OnOk-fault _ _ c.from_residual.result made;
      answers = OnOk-fault _ _ c.from_residual.result made;
      no_read_failed = OnOk-fault _ _ c.from_residual.result made;
      no_write_failed = OnOk-fault _ _ c.from_residual.result made;
      read = λ is. (by Read is).read_failed;
      whole_lines = λ is. (by Read is).answered;
      only_a_read = λ is. (by Read is).no_write_failed;
      write = λ is. (by Write is).write_failed;
      beginning = λ is. (by Write is).answered;
      only_a_write = λ is. (by Write is).no_read_failed;
      memory = λ is. (by Memory is).answered;
      no_call_failed = λ is. ((by Memory is).no_read_failed, (by Memory is).no_write_failed);
    }

pub returns-then-count-eq0 : goal.returns-then-count-eq0
returns-then-count-eq0 g c =
    let so_far = c.reads.invariant in
    let all = Turns-end _ _ _ _ so_far.0 _ c.if-count-eq0.true (c.in_ok-count.ensures _ so_far.0 so_far.1.stands) in
    record {
      end = all.none_left;
      answers = all.answered;
      no_read_failed = all.no_read_failed;
      no_write_failed = all.no_write_failed;
      read = λ is. absurd (no_fault _ is);
      whole_lines = λ is. absurd (no_fault _ is);
      only_a_read = λ is. absurd (no_fault _ is);
      write = λ is. absurd (no_fault _ is);
      beginning = λ is. absurd (no_fault _ is);
      only_a_write = λ is. absurd (no_fault _ is);
      memory = λ is. absurd (no_fault _ is);
      no_call_failed = λ is. absurd (no_fault _ is);
    }

pub returns : goal.returns
returns g c =
    let so_far = c.reads.invariant in
    let stops = reads_end _ _ _ _ so_far.0 _ so_far.1.stands so_far.1.turns c.reads-test.false in
    record {
      end = tt;
      answers = tt;
      no_read_failed = tt;
      no_write_failed = tt;
      read = λ _. stops.read_failed;
      whole_lines = λ _. stops.answered;
      only_a_read = λ _. stops.no_write_failed;
      write = λ is. absurd (no_write is);
      beginning = λ is. absurd (no_write is);
      only_a_write = λ is. absurd (no_write is);
      memory = λ is. absurd (no_memory is);
      no_call_failed = λ is. absurd (no_memory is);
    }
