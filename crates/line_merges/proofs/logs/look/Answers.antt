use Rattle.std.proofs.Common.{refl, ◌∙◌}
use Rattle.line_merges.proofs.ReadLemmas.{look_ready}
use Rattle.line_merges.specs.Instants.{reading_from}
use Rattle.line_merges.proofs.logs.look.Goals as goal

pub returns-clause-ready : goal.returns-clause-ready
returns-clause-ready g c =
    let found = c.line_end-end.ensures in
    look_ready (reading_from (g.I.Instants.reading c.args.instants.now c.args.log) c.args.memory.now) c.args.front.now _ c.line_end-end.result
    c.bytes-bytes.result.now c.instant_of-own.result
    c.is_empty-is_empty.result (g.met.I.Instants.by_head c.args.instants.now c.args.log c.args.memory.now)
    (g.met.I.Instants.remembers_head c.args.instants.now c.args.log c.args.memory.now) c.requires (c.bytes-bytes.ensures.value ∙ found.same) found.bound
    found.before found.byte_there c.instant_of-own.ensures c.is_empty-is_empty.ensures found.same refl refl refl c.up_to-front.ensures
    (rw c.is_some.ensures at c.kind_of-kind.ensures)
