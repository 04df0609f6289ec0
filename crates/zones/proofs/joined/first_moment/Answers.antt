use Rattle.std.proofs.Common.{◌≡◌, ◌-◌, pos, ◌+ℤ◌, ◌-ℤ◌, ◌≤ℤ◌, ◌<ℤ◌, length, to_z, of_z, arith, refl, sym, ap, subst}
use Rattle.std.proofs.lemmas.List.{get_or_read_under}
use mir.Syntax.{w64}
use Rattle.calendar_values.specs.SignedArith.{signed_arith}
use Rattle.zones.specs.declared.transition.Transition.{Transition}
use Rattle.zones.specs.Cycles.{cycle_second}
use Rattle.zones.specs.Seconds.{IsSecond}
use Rattle.zones.specs.Tables.{row_at, no_row, table_second}
use Rattle.zones.specs.Zones.{IsFirstMoment}
use Rattle.zones.proofs.joined.first_moment.Goals as goal

pub last_at-requires : goal.last_at-requires
last_at-requires c =
    let rows = c.args.rows.now in
    let m = length rows - 1 in
    let row = c.index-rows-count.result in
    let is : row_at rows m ≡ row = sym (get_or_read_under rows m (length rows) row no_row c.index-rows-count.is (omega arith) refl) in
    let s : IsSecond row.second = subst (λ (r : Transition). IsSecond r.second) is (c.requires.in_range m (omega arith)) in
    (omega (arith, signed_arith), omega (arith, signed_arith))

pub returns-clause-moment : goal.returns-clause-moment
returns-clause-moment c =
    let rows = c.args.rows.now in
    let m = length rows - 1 in
    let row = c.index-rows-count.result in
    let is : row_at rows m ≡ row = sym (get_or_read_under rows m (length rows) row no_row c.index-rows-count.is (omega arith) refl) in
    let s1 = ap (λ (r : Transition). r.second) is in
    let f1 = row.second_in in
    let b1 : to_z w64 (of_z w64 row.second) ≡ row.second = omega (arith, signed_arith) in
    let low = c.last_at.ensures.low in
    let high = c.last_at.ensures.high in
    let begun = c.last_at.ensures.begun in
    let ahead = c.last_at.ensures.not_next in
    let e : to_z w64 (of_z w64 (to_z w64 (of_z w64 c.last_at.result) +ℤ pos 1)) ≡ c.last_at.result +ℤ pos 1 = omega (arith, signed_arith) in
    let less : c.last_at.result +ℤ pos 1 -ℤ pos 1 ≡ c.last_at.result = omega (arith, signed_arith) in
    let whole : IsFirstMoment rows c.args.cycle (c.last_at.result +ℤ pos 1) = record {
      at_first = λ none. absurd (omega arith);
      at_once = λ k last.
          let same : m ≡ k = omega arith in
          let here = ap (cycle_second c.args.cycle) less in
          let now : cycle_second c.args.cycle (c.last_at.result +ℤ pos 1 -ℤ pos 1) ≤ℤ table_second rows m = omega (arith, signed_arith) in
          rw same at now;
      follows = λ k last.
          let same : m ≡ k = omega arith in
          let now : table_second rows m <ℤ cycle_second c.args.cycle (c.last_at.result +ℤ pos 1) = omega (arith, signed_arith) in
          rw same at now;
    } in
    subst (IsFirstMoment rows c.args.cycle) (sym e) whole
