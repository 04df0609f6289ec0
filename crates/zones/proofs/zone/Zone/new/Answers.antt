use Rattle.std.proofs.Common.{◌≡◌, Option, Some, None, arith, refl}
use Rattle.zones.specs.declared.cycle.Cycle.{Cycle}
use Rattle.zones.specs.Zones.{ZoneParts}
use Rattle.zones.proofs.SlotLemmas.{no_slots}
use Rattle.zones.proofs.TableLemmas.{forward_of}
use Rattle.zones.proofs.zone.Zone.new.Goals as goal

no_rule : (o : Option Cycle) → ((c : Cycle) → o ≡ Some c → ⊥) → None ≡ o
no_rule None h = refl
no_rule (Some c) h = absurd (h c refl)

pub invariant_of-result : goal.invariant_of-result
invariant_of-result c =
    let zone : ZoneParts = record { first = c.args.first; rows = c.args.rows.now; tail = None } in
    (forward_of c.args.first c.args.rows.now c.rows_in_order-count.result (omega arith) c.rows_in_order-count.ensures, no_slots zone)

pub returns-in_default : goal.returns-in_default
returns-in_default c = record {
  first = refl;
  rows = refl;
  cycle = no_rule c.args.rule c.in_default.not-Some;
  is_zone = forward_of c.args.first c.args.rows.now c.rows_in_order-count.result (omega arith) c.rows_in_order-count.ensures;
}

pub tail_after-requires : goal.tail_after-requires
tail_after-requires c = forward_of c.args.first c.args.rows.now c.rows_in_order-count.result (omega arith) c.rows_in_order-count.ensures

pub returns-in-None : goal.returns-in-None
returns-in-None c = (
  forward_of c.args.first c.args.rows.now c.rows_in_order-count.result (omega arith) c.rows_in_order-count.ensures,
  (c.in-Some.cycle, c.in-Some.is, c.in-None.ensures.none),
)
