use Rattle.std.proofs.Common.{◌≡◌, refl}
use Rattle.stamps.specs.FrontRuns.{text_of}
use Rattle.stamps.proofs.fronted.Fronts.reserve.Goals as goal

pub returns-in_err-reserve_exact-clause-text : goal.returns-in_err-reserve_exact-clause-text
unfolding text_of
returns-in_err-reserve_exact-clause-text c = λ turning left. rw c.reserve_exact.ensures.items refl

pub returns-in_err-reserve_exact-clause-short : goal.returns-in_err-reserve_exact-clause-short
returns-in_err-reserve_exact-clause-short c = λ short closed. rw c.reserve_exact.ensures.items (short closed)

pub returns-in_err-reserve_exact-2-clause-text : goal.returns-in_err-reserve_exact-2-clause-text
unfolding text_of
returns-in_err-reserve_exact-2-clause-text c = λ turning left. rw (c.reserve_exact.ensures.items, c.reserve_exact-then-capacity-eq0.ensures.items) refl

pub returns-in_err-reserve_exact-2-clause-short : goal.returns-in_err-reserve_exact-2-clause-short
returns-in_err-reserve_exact-2-clause-short c = λ short closed. rw c.reserve_exact.ensures.items (short closed)

pub returns-in_ok-reserve_exact-2-clause-text : goal.returns-in_ok-reserve_exact-2-clause-text
unfolding text_of
returns-in_ok-reserve_exact-2-clause-text c = λ turning left. rw (c.reserve_exact.ensures.items, c.reserve_exact-then-capacity-eq0.ensures.items) refl

pub returns-in_ok-reserve_exact-2-clause-short : goal.returns-in_ok-reserve_exact-2-clause-short
returns-in_ok-reserve_exact-2-clause-short c = λ short closed. rw c.reserve_exact.ensures.items (short closed)
