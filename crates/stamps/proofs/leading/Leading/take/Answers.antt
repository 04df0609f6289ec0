use Rattle.std.proofs.Common.{◌≡◌, ◌∙◌, ◌+◌, ap, arith, length, refl, sym}
use Rattle.std.specs.Prelude.{not}
use Rattle.stamps.proofs.LeadingLemmas.{looked_found, looked_named, looked_passed, none_full}
use Rattle.stamps.proofs.leading.Leading.take.Goals as goal

pub returns-then-not-self-clause-looked : goal.returns-then-not-self-clause-looked
returns-then-not-self-clause-looked c = λ lines not' h.
    looked_named c.args.reader.now c.args.head.now lines _ c.args.self.now _ h not' c.if-not-self.true refl (ap not c.is_bare.ensures)
    (ap not c.is_bare.ensures) refl

pub returns-then-not-may_choose-clause-looked : goal.returns-then-not-may_choose-clause-looked
returns-then-not-may_choose-clause-looked c = λ lines not' h.
    looked_passed c.args.reader.now c.args.head.now lines _ c.args.self.now _ h not' c.if-not-self.false
    (sym c.may_choose.ensures ∙ c.if-not-may_choose.true) refl (rw c.is_bare-then-not-may_choose.ensures refl) refl refl

pub returns-then-room-eq0-clause-looked : goal.returns-then-room-eq0-clause-looked
returns-then-room-eq0-clause-looked c = λ lines not' h.
    let room : length c.args.self.now.found + c.room.result ≡ 16 = c.room.ensures in
    absurd (none_full c.args.reader.now c.args.head.now lines c.args.self.now h not' c.if-not-self.false (omega (arith, room, c.if-room-eq0.true)))

pub returns-clause-looked : goal.returns-clause-looked
returns-clause-looked c = λ lines not' h.
    looked_found c.args.reader.now c.args.head.now lines _ (c.args.self.now.from, c.args.end) c.args.self.now _ h not' c.if-not-self.false
    (sym c.may_choose.ensures ∙ c.if-not-may_choose.false) refl (c.requires.low, c.requires.within) refl refl c.push.ensures
    (λ within. rw c.items.ensures.value at c.suffice-self.ensures within)
