use Rattle.std.proofs.Common.{rules}
use Rattle.std.proofs.lemmas.Fn.{always_returns_same}
use Rattle.line_merges.proofs.sorts.sort_held.Goals as goal

pub returns : goal.returns
returns c = record {
  same = c.in_ok-sort_by_key.ensures.permutation;
  order = c.in_ok-sort_by_key.ensures.sorted (λ line. line.instant) (always_returns_same _ _ _ (λ a r q k. search rules));
  stable = c.in_ok-sort_by_key.ensures.stable (λ line. line.instant) (always_returns_same _ _ _ (λ a r q k. search rules));
}
