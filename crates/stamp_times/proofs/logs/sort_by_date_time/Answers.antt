use Rattle.std.proofs.Common.{rules}
use Rattle.std.proofs.lemmas.Fn.{always_returns_same}
use Rattle.stamp_times.proofs.logs.sort_by_date_time.Goals as goal

pub returns-clause-in_order : goal.returns-clause-in_order
returns-clause-in_order g c =
    c.in_ok-sort_by_key.ensures.sorted g.T.Dated.date_time (always_returns_same _ _ _ (λ a r q k. search rules))

pub returns-clause-stable : goal.returns-clause-stable
returns-clause-stable g c =
    c.in_ok-sort_by_key.ensures.stable g.T.Dated.date_time (always_returns_same _ _ _ (λ a r q k. search rules))
