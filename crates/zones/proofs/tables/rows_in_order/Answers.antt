use Rattle.std.proofs.Common.{arith, below_more}
use Rattle.zones.specs.Tables.{Follows}
use Rattle.zones.proofs.tables.rows_in_order.Goals as goal

pub rows-preserved : goal.rows-preserved
rows-preserved c = record {
  bound = omega arith;
  go_on = below_more (λ k. Follows c.args.first c.args.rows.now k) c.rows.count c.rows.invariant.go_on (c.follows.ensures.0 c.if-not-follows.false);
}
