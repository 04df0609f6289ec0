use Rattle.std.proofs.Common.{sym, ap, ◌∙◌, Err}
use Rattle.rfc3339.specs.Front.{front_reading_of}
use Rattle.rfc3339.specs.Reading.{front_at}
use Rattle.rfc3339.specs.declared.refusal.TextRefusal.{TextRefusal}
use Rattle.stamps.proofs.FrontLemmas.{front_accepted, front_syntax}
use Rattle.stamps.proofs.decide.stamp_in.Goals as goal

pub returns-in-Ok : goal.returns-in-Ok
unfolding front_reading_of
returns-in-Ok c =
    let front = c.args.front.now in
    rw (front_accepted front (front_at front) _ (sym c.in-Ok.ensures.reading)) (
    rw (c.to_utc.ensures, c.behind.ensures) at c.stamp_before.ensures
    )

pub returns-in-Err-Syntax : goal.returns-in-Err-Syntax
unfolding front_reading_of
returns-in-Err-Syntax c =
    let front = c.args.front.now in
    sym (front_syntax front (front_at front) (sym c.in-Err-Syntax.ensures.reading ∙ ap (λ (z : TextRefusal). Err z) c.in-Err-Syntax.field-0-is))

pub refusal_before-requires-clause-meaning : goal.refusal_before-requires-clause-meaning
unfolding front_reading_of
refusal_before-requires-clause-meaning c = sym c.in-Err.ensures.reading
