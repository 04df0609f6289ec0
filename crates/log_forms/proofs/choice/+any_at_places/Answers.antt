use Rattle.std.proofs.Common.{arith, ◌∙◌, ◌≤◌, sym}
use Rattle.log_forms.proofs.ChoiceLemmas.{no_place, place_before, place_more}
use Rattle.log_forms.proofs.choice.+any_at_places.Goals as goal

pub returns-then-places-eq0 : goal.returns-then-places-eq0
returns-then-places-eq0 t c = no_place c.args.places c.args.line.now (omega (arith, c.if-places-eq0.true))

pub returns-then-any_at_places : goal.returns-then-any_at_places
returns-then-any_at_places t c =
    let some : 1 ≤ c.args.places = omega (arith, c.if-places-eq0.false) in
    c.if-any_at_places.true ∙ sym (place_before c.args.places c.args.line.now some (sym c.any_at_places.ensures ∙ c.if-any_at_places.true))

pub returns-else-any_at_places : goal.returns-else-any_at_places
returns-else-any_at_places t c =
    let some : 1 ≤ c.args.places = omega (arith, c.if-places-eq0.false) in
    let none = sym c.any_at_places.ensures ∙ c.if-any_at_places.false in
    sym (place_more c.args.places c.args.line.now c.any_at_place.result some none c.any_at_place.ensures)
