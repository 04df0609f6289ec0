use Rattle.std.proofs.Common.{◌∙◌, arith}
use Rattle.std.proofs.lemmas.Grind.{common_steps}
use Rattle.std.proofs.lemmas.List.{take_all}
use Rattle.line_merges.proofs.LineLemmas.{first_of-found}
use Rattle.line_merges.proofs.sorts.first_of.Goals as goal

pub returns-then-end-text-clause-line : goal.returns-then-end-text-clause-line
returns-then-end-text-clause-line c =
    let found = c.place_of-end.ensures in
    (first_of-found c.args.text.now c.place_of-end.result found.bounds.1 found.before found.byte_there).line

pub returns-then-end-text-clause-rest : goal.returns-then-end-text-clause-rest
returns-then-end-text-clause-rest c =
    let found = c.place_of-end.ensures in
    take_all _ _ (grind (arith, common_steps))
    ∙ (first_of-found c.args.text.now c.place_of-end.result found.bounds.1 found.before found.byte_there).rest c.if-end-text.true

pub returns-else-end-text-clause-line : goal.returns-else-end-text-clause-line
returns-else-end-text-clause-line c =
    let found = c.place_of-end.ensures in
    (first_of-found c.args.text.now c.place_of-end.result found.bounds.1 found.before found.byte_there).whole (omega (arith, c.if-end-text.false))

pub returns-else-end-text-clause-rest : goal.returns-else-end-text-clause-rest
returns-else-end-text-clause-rest c =
    let found = c.place_of-end.ensures in
    (first_of-found c.args.text.now c.place_of-end.result found.bounds.1 found.before found.byte_there).none (omega (arith, c.if-end-text.false))
