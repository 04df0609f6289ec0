use Rattle.std.proofs.Common.{refl, ap, map, sym}
use Rattle.line_merges.proofs.SortLemmas.{empty_when, reads_all, reads_more, reads_now, some_when}
use Rattle.line_merges.specs.Instants.{reading_from}
use Rattle.line_merges.specs.Sorts.{held_as}
use Rattle.line_merges.proofs.sorts.read_lines.Goals as goal

pub lines-init : goal.lines-init
lines-init g c =
    reads_now (g.I.Instants.reading c.args.instants.now 0) c.args.memory c.args.lateness c.args.text.now
    (record { held = c.new.result; place = c.first.result; memory = c.args.memory; lateness = c.args.lateness })
    (ap (map held_as) c.new.ensures.items) c.first.ensures refl refl

pub lines-preserved : goal.lines-preserved
lines-preserved g c =
    let by = reading_from (g.I.Instants.reading c.args.instants.now 0) c.args.memory in
    rw (c.first_of.ensures.rest) (reads_more by c.args.lateness c.args.text.now c.lines.reading c.take.new.self c.lines.rest.now
    (some_when c.lines.rest.now (c.is_empty.ensures) c.lines-test.true) c.lines.invariant (rw (sym c.first_of.ensures.line) c.in_ok-take.ensures))

pub returns : goal.returns
returns g c =
    let by = reading_from (g.I.Instants.reading c.args.instants.now 0) c.args.memory in
    reads_all by c.args.lateness c.args.text.now c.lines.reading c.lines.rest.now
    (empty_when c.lines.rest.now c.is_empty.ensures c.lines-test.false) c.lines.invariant

pub lines-smaller : goal.lines-smaller
lines-smaller g c = c.first_of.ensures.shorter (some_when c.lines.rest.now c.is_empty.ensures c.lines-test.true)
