use Rattle.std.proofs.Common.{sym, ◌∙◌, refl}
use Rattle.std.specs.Prelude.{drop}
use Rattle.rfc3339.specs.Reading.{front_at}
use Rattle.stamps.proofs.FrontLemmas.{front_refused, no_refusal_at, refusal_at}
use Rattle.stamps.proofs.decide.refusal_before.Goals as goal

pub returns-then-ends : goal.returns-then-ends
returns-then-ends c =
    let front = c.args.front.now in
    let place = c.syntax_fault-length.result in
    let fault = c.syntax_fault-length.ensures in
    let ends = rw c.behind.ensures at (sym c.ends.ensures ∙ c.if-ends.true) in
    sym (front_refused front (front_at front) c.args.refusal place refl c.requires.meaning c.requires.other fault.at_most fault.begins fault.longest
    ∙ refusal_at c.args.refusal place (drop place front) ends)

pub returns-else-ends : goal.returns-else-ends
returns-else-ends c =
    let front = c.args.front.now in
    let place = c.syntax_fault-length.result in
    let fault = c.syntax_fault-length.ensures in
    let goes_on = rw c.behind.ensures at (sym c.ends.ensures ∙ c.if-ends.false) in
    sym (front_refused front (front_at front) c.args.refusal place refl c.requires.meaning c.requires.other fault.at_most fault.begins fault.longest
    ∙ no_refusal_at c.args.refusal place (drop place front) goes_on)
