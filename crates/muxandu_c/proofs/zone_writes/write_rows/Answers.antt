use Rattle.std.proofs.Common.{rules, refl, subst, ◌≡◌, ◌≤◌, ◌∙◌, ◌<◌, length, arith}
use Rattle.std.proofs.lemmas.List.{length-set, get_or_default}
use Rattle.zones.specs.Tables.{row_at, no_row}
use Rattle.zones.specs.declared.transition.Transition.{Transition}
use Rattle.muxandu_c.specs.ZoneNumbers.{IsTransitionOf}
use Rattle.muxandu_c.proofs.ValuesLemmas.{behind_next}
use Rattle.muxandu_c.proofs.ZoneNumberLemmas.{numbers_more, front_numbers}
use Rattle.muxandu_c.proofs.zone_writes.write_rows.Goals as goal

pub rows-preserved : goal.rows-preserved
rows-preserved c =
    let low : c.rows.i < length c.rows.table = omega (arith, c.rows-test.true, c.requires, c.rows.invariant.same) in
    let within : c.rows.i < length c.args.rows.now = search rules in
    let is : c.index-rows-i.result ≡ row_at c.args.rows.now c.rows.i =
    c.index-rows-i.is ∙ get_or_default c.args.rows.now c.rows.i _ no_row within in
    let numbered : IsTransitionOf c.numbers_of_transition.result (row_at c.args.rows.now c.rows.i) =
    subst (λ (r : Transition). IsTransitionOf c.numbers_of_transition.result r) is c.numbers_of_transition.ensures in
    record {
      rows =
          numbers_more c.rows.table c.args.rows.now c.rows.i c.numbers_of_transition.result low c.rows.invariant.rows numbered;
      behind = behind_next c.rows.table c.args.table.now c.rows.i c.numbers_of_transition.result c.rows.invariant.behind;
      same = length-set c.rows.table c.rows.i c.numbers_of_transition.result ∙ c.rows.invariant.same;
    }

pub returns-clause-rows : goal.returns-clause-rows
returns-clause-rows c =
    let end : length c.args.rows.now ≡ c.rows.i = search rules in
    let le : length c.args.rows.now ≤ length c.rows.table = search rules in
    front_numbers c.rows.table c.args.rows.now (length c.args.rows.now) c.rows.i refl end le c.rows.invariant.rows
