use Rattle.std.proofs.Common.{◌≡◌, ◌≤◌, sym, refl, subst, length, take, List, Option, option_map, arith}
use Rattle.zones.specs.declared.cycle.Cycle.{Cycle}
use Rattle.zones.specs.declared.tail.Tail.{Tail}
use Rattle.zones.specs.declared.time_type.TimeType.{TimeType}
use Rattle.zones.specs.declared.transition.Transition.{Transition}
use Rattle.muxandu_c.specs.ZoneNumbers.{AreTransitionsOf, IsTypeOf, IsRuleOf}
use Rattle.muxandu_c.proofs.zone_writes.write_zone.Goals as goal

pub returns-clause-stands : goal.returns-clause-stands
returns-clause-stands c =
    let z = c.args.zone.now in
    let zone = c.numbers_of_parts.result in
    let rows : AreTransitionsOf (take (length z.rows) c.write_rows.new.table) z.rows =
    subst (λ (rows : List Transition). AreTransitionsOf (take (length rows) c.write_rows.new.table) rows) c.table-rows.ensures
    c.write_rows.ensures.rows in
    record {
      first = z.first;
      rows = z.rows;
      rule = option_map (λ (t : Tail). t.cycle) z.tail;
      parts = record {
        few = omega (arith, rows.count, c.requires.few);
        first_is = subst (IsTypeOf zone.offset_seconds zone.designation zone.is_daylight) c.first_type.ensures.value c.numbers_of_parts.ensures.first;
        rows_are = rows;
        rule_is = subst (IsRuleOf zone) c.rule.ensures c.numbers_of_parts.ensures.rule;
      };
      is_zone = record { first = refl; rows = refl; cycle = refl; is_zone = c.first_type.ensures.zone };
    }
