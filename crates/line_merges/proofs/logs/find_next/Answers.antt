use Rattle.line_merges.proofs.ReadLemmas.{finds_first, finds_more, finds_failed}
use Rattle.line_merges.specs.Instants.{reading_from}
use Rattle.line_merges.proofs.logs.find_next.Goals as goal

pub reads-init : goal.reads-init
reads-init g c = finds_first c.args.front.now _ _ _ _ c.args.pending.now

pub reads-preserved : goal.reads-preserved
reads-preserved g c =
    finds_more c.args.front.now c.needs_more.new.front c.read_on.new.front _ _ _ c.args.pending.now c.reads.pending c.read_on.new.pending
    (rw c.needs_more.ensures.same (c.needs_more.ensures.more c.reads-test.true).0) (rw c.needs_more.ensures.same c.reads.invariant)
    c.in_ok-read_on.ensures

pub returns-in_err-read_on : goal.returns-in_err-read_on
returns-in_err-read_on g c =
    finds_failed c.from_residual.result _ (reading_from (g.I.Instants.reading c.args.instants.now c.args.log) c.args.memory.now)
    c.args.front.now c.needs_more.new.front c.read_on.new.front _ _ _ c.args.pending.now
    c.reads.pending c.read_on.new.pending (rw c.needs_more.ensures.same (c.needs_more.ensures.more c.reads-test.true).0)
    (rw c.needs_more.ensures.same c.reads.invariant)
    (rw c.needs_more.ensures.same (c.needs_more.ensures.more c.reads-test.true).2) c.from_residual.ensures.1 c.in_err-read_on.ensures
