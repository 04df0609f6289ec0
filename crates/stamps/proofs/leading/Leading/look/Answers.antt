use Rattle.std.proofs.Common.{◌≡◌, ◌∙◌, List, Option, ℕ, ap, arith, length, map, take}
use Rattle.std.specs.Prelude.{◌&&◌, All, not}
use Rattle.std.proofs.lemmas.List.{take_all}
use Rattle.log_forms.specs.Choices.{choice_of}
use Rattle.stamps.specs.Leading.{IsWithin, line_at, look_by}
use Rattle.stamps.proofs.LeadingLemmas.{look_same}
use Rattle.stamps.proofs.leading.Leading.look.Goals as goal

pub returns : goal.returns
returns c = λ reader lines more h none.
    let head = c.args.head.now in
    let self = c.args.self.now in
    let spans = c.items-spans.result.now in
    let value : spans ≡ self.found = c.items-spans.ensures.value in
    let within : All (IsWithin head) spans = rw value h.within in
    let at_end : c.spans.k ≡ length spans = omega (arith, c.spans-test.false, c.spans.auto.k-end) in
    let whole : take (length spans) spans ≡ spans = take_all (length spans) spans (omega arith) in
    let same = rw (at_end, whole) at c.spans.invariant.same within in
    let choice : c.choose.result ≡ choice_of (map (line_at head) self.found) = c.choose.ensures.choice
    ∙ ap choice_of same ∙ ap (λ (z : List (ℕ × ℕ)). choice_of (map (line_at head) z)) value in
    look_same reader head lines more self _ h none
    (c.look_by.ensures ∙ ap (λ (z : Option ℕ). look_by z (self.has_text && not self.is_refused)) choice)
