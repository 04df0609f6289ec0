use Rattle.std.proofs.Common.{◌≡◌, ◌∙◌, ◌+◌, ◌-◌, ◌≤◌, ap, arith, drop, length, length-drop, List, take, ℕ}
use Rattle.std.proofs.lemmas.List.{take_all}
use Rattle.stamps.proofs.FrontRunLemmas.{copied_front, given_by}
use Rattle.stamps.proofs.fronted.Turned.give.Goals as goal

pub returns-then-self-len-clause-given : goal.returns-then-self-len-clause-given
returns-then-self-len-clause-given g c = λ step some.
    let self = c.args.self.now in
    let ready = self.fronts.ready.items in
    let count = c.copy_front-count.result in
    let from = drop self.served ready in
    let whole : take (length ready - self.served) from ≡ from = take_all (length ready - self.served) from (omega (arith, length-drop self.served ready)) in
    let within = rw (c.deref.ensures.value, whole) at c.copy_front-count.ensures.within in
    let copied = rw (c.deref.ensures.value, whole) at c.copy_front-count.ensures.copied in
    given_by g.R.Read.remaining self self.turning count _ some (omega (arith, step.1, within, length-drop self.served ready))
    (copied_front from _ _ count within copied)
