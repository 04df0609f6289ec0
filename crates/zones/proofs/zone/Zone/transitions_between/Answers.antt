use Rattle.std.proofs.Common.{◌≡◌, ℕ, ◌+◌, ℤ, Option, Some, FitsSigned, to_z, of_z, arith, subst}
use Rattle.std.proofs.lemmas.List.{length-set}
use mir.Syntax.{w64}
use Rattle.calendar_values.specs.SignedArith.{signed_arith}
use Rattle.zones.specs.Clocks.{IsPlace}
use Rattle.zones.specs.Zones.{IsZone, HasTransition, zone_second, IsNextTransition, AreWritten}
use Rattle.zones.proofs.BetweenLemmas.{NextIs, next_place, one_written, after_place}
use Rattle.zones.proofs.zone.Zone.transitions_between.Goals as goal

back : (z : ℤ) → FitsSigned w64 z → to_z w64 (of_z w64 z) ≡ z
back z h = omega (arith, signed_arith)

pub returns-then-row-until-clause-between : goal.returns-then-row-until-clause-between
returns-then-row-until-clause-between c =
    let z = c.args.self.now in
    let found = c.rows.invariant.found in
    let next : NextIs z (found.0 + c.rows.count) (Some c.in-Some.row) = subst (λ (o : Option _). NextIs z (found.0 + c.rows.count) o) c.in-Some.is found.3
    in
    let second = next.1.second in
    let si = c.in-Some.row.second_in in
    record {
      place = found.0;
      begin = subst (λ (t : ℤ). IsPlace (HasTransition z) (zone_second z) t found.0) (back c.args.from c.ranges.from) found.1;
      written = subst (λ (t : ℤ). AreWritten z t c.args.room.now c.rows.room found.0 c.rows.count) (back c.args.until c.ranges.until) found.2;
      rest = λ room has. omega (arith, signed_arith);
    }

pub next_transition-next-requires-in-rows : goal.next_transition-next-requires-in-rows
next_transition-next-requires-in-rows c =
    let z = c.args.self.now in
    let zone = subst IsZone c.self.view_is c.self.invariant.0 in
    let found = c.rows.invariant.found in
    let next : NextIs z (found.0 + c.rows.count) (Some c.in-Some.row) = subst (λ (o : Option _). NextIs z (found.0 + c.rows.count) o) c.in-Some.is found.3
    in
    let second = next.1.second in
    let fi = c.requires.from in
    let ui = c.requires.until in
    let si = c.in-Some.row.second_in in
    let late = after_place z zone _ found.0 (found.0 + c.rows.count) found.1 (omega arith) next.0 in
    (omega (arith, signed_arith), omega (arith, signed_arith))

pub rows-preserved : goal.rows-preserved
rows-preserved c =
    let z = c.args.self.now in
    let zone = subst IsZone c.self.view_is c.self.invariant.0 in
    let found = c.rows.invariant.found in
    let row = c.in-Some.row in
    let next : NextIs z (found.0 + c.rows.count) (Some row) = subst (λ (o : Option _). NextIs z (found.0 + c.rows.count) o) c.in-Some.is found.3 in
    let si = row.second_in in
    let ui = c.requires.until in
    let size = c.rows.invariant.size in
    let grown = length-set c.rows.room c.rows.count row in
    let e : to_z w64 (of_z w64 row.second) ≡ row.second = omega (arith, signed_arith) in
    let told = subst (λ (t : ℤ). IsNextTransition z t c.next_transition-next-in-rows.result) e c.next_transition-next-in-rows.ensures in
    let after = next_place z zone (found.0 + c.rows.count) row c.next_transition-next-in-rows.result next.0 next.1 told in
    let same : found.0 + c.rows.count + 1 ≡ found.0 + (c.rows.count + 1) = omega arith in
    record {
      size = omega arith;
      found = (
        found.0,
        found.1,
        one_written z (to_z w64 (of_z w64 c.args.until)) c.args.room.now c.rows.room found.0 c.rows.count row found.2 (omega arith) next.0
            (omega (arith, signed_arith)) next.1,
        subst (λ (k : ℕ). NextIs z k c.next_transition-next-in-rows.result) same after,
      );
    }
