use Rattle.std.proofs.Common.{◌≡◌, ◌∙◌, sym, Some}
use Rattle.rfc3339.specs.Walls.{parts_on}
use Rattle.rfc3339.proofs.AfterSecondLemmas.{parts_on-takes, parts_on-again, parts_on-whole, parts_on-longer, parts_on-none}
use Rattle.rfc3339.proofs.parse.parts_after_second.Goals as goal

pub returns-in_err-parts-clause-equation : goal.returns-in_err-parts-clause-equation
returns-in_err-parts-clause-equation c p h =
    c.from_residual.ensures ∙ parts_on-none c.args.parts c.args.text.now c.in_err-parts.ensures.value
    ∙ parts_on-again c.args.parts p c.args.text.now h

pub returns-then-is_empty-clause-equation : goal.returns-then-is_empty-clause-equation
returns-then-is_empty-clause-equation c p h =
    parts_on-whole c.args.parts c.in_ok-parts.parts c.args.text.now c.in_ok-parts.rest.now c.in_ok-parts.ensures.value
    (sym c.is_empty.ensures ∙ c.if-is_empty.true)
    ∙ parts_on-again c.args.parts p c.args.text.now h

pub returns-then-is_empty-clause-spelled : goal.returns-then-is_empty-clause-spelled
returns-then-is_empty-clause-spelled c =
    let whole : Some c.in_ok-parts.parts ≡ parts_on c.args.parts c.args.text.now =
    parts_on-whole c.args.parts c.in_ok-parts.parts c.args.text.now c.in_ok-parts.rest.now c.in_ok-parts.ensures.value
    (sym c.is_empty.ensures ∙ c.if-is_empty.true) in
    parts_on-takes c.args.parts c.in_ok-parts.parts c.args.text.now (sym whole)

pub returns-else-is_empty-clause-equation : goal.returns-else-is_empty-clause-equation
returns-else-is_empty-clause-equation c p h =
    parts_on-longer c.args.parts c.in_ok-parts.parts c.args.text.now c.in_ok-parts.rest.now c.in_ok-parts.ensures.value
    (sym c.is_empty.ensures ∙ c.if-is_empty.false)
    ∙ parts_on-again c.args.parts p c.args.text.now h
