use Rattle.std.proofs.Common.{◌≡◌, ℤ, ◌+ℤ◌, ◌≤ℤ◌, to_z, of_z, arith, refl, sym, ap, subst, ◌∙◌}
use mir.Syntax.{w64}
use Rattle.calendar_values.specs.SignedArith.{signed_arith}
use Rattle.zones.specs.Cycles.{cycle_second, cycle_type, low_offset, RunsForward}
use Rattle.zones.specs.Tables.{row_end, row_at}
use Rattle.zones.specs.Zones.{IsFirstMoment}
use Rattle.zones.proofs.JoinedLemmas.{joined_at, tail_joined}
use Rattle.zones.proofs.joined.tail_after.Goals as goal

pub returns-then-not-runs_forward-clause-none : goal.returns-then-not-runs_forward-clause-none
returns-then-not-runs_forward-clause-none c = λ tail e j.
    let yes = c.runs_forward.ensures.1 (subst RunsForward e j.runs) in
    cc

pub returns-then-not-is-clause-none : goal.returns-then-not-is-clause-none
returns-then-not-is-clause-none c = λ tail e j.
    let first = c.args.first in
    let rows = c.args.rows.now in
    let m = c.first_moment-moment.result in
    let low = c.first_moment-moment.ensures.low in
    let high = c.first_moment-moment.ensures.high in
    let back_m : to_z w64 (of_z w64 m) ≡ m = omega (arith, signed_arith) in
    let next = c.transition_of-next.result in
    let second = c.transition_of-next.ensures.second ∙ ap (cycle_second c.args.cycle) back_m in
    let before = c.transition_of-next.ensures.before ∙ ap (cycle_type c.args.cycle) back_m in
    let at = joined_at first rows c.args.cycle m (omega (arith, signed_arith)) c.first_moment-moment.ensures.moment tail e j in
    let yes = c.is.ensures.1 (before ∙ sym at.0 ∙ sym c.type_after.ensures) in
    cc

pub returns-then-not-is_clear-clause-none : goal.returns-then-not-is_clear-clause-none
returns-then-not-is_clear-clause-none c = λ tail e j.
    let first = c.args.first in
    let rows = c.args.rows.now in
    let m = c.first_moment-moment.result in
    let low = c.first_moment-moment.ensures.low in
    let high = c.first_moment-moment.ensures.high in
    let back_m : to_z w64 (of_z w64 m) ≡ m = omega (arith, signed_arith) in
    let next = c.transition_of-next.result in
    let second = c.transition_of-next.ensures.second ∙ ap (cycle_second c.args.cycle) back_m in
    let before = c.transition_of-next.ensures.before ∙ ap (cycle_type c.args.cycle) back_m in
    let slow = c.transition_of-next.ensures.second_low in
    let shigh = c.transition_of-next.ensures.second_high in
    let lv = c.low.ensures.value in
    let lr = c.low.ensures.in_range in
    let lr0 = lr.0 in
    let lr1 = lr.1 in
    let sum : to_z w64 (of_z w64 (to_z w64 (of_z w64 next.second) +ℤ to_z w64 (of_z w64 c.low.result))) ≡ next.second +ℤ c.low.result = omega
    (arith, signed_arith) in
    let at = joined_at first rows c.args.cycle m (omega (arith, signed_arith)) c.first_moment-moment.ensures.moment tail e j in
    let same : cycle_second c.args.cycle m +ℤ low_offset c.args.cycle ≡ to_z w64
    (of_z w64 (to_z w64 (of_z w64 next.second) +ℤ to_z w64 (of_z w64 c.low.result))) = omega (arith, signed_arith) in
    let yes = c.is_clear.ensures.1 (λ k last. subst (λ (z : ℤ). row_end (row_at rows k) ≤ℤ z) same (at.1 k last)) in
    cc

pub invariant_of-result : goal.invariant_of-result
invariant_of-result c =
    let first = c.args.first in
    let rows = c.args.rows.now in
    let m = c.first_moment-moment.result in
    let low = c.first_moment-moment.ensures.low in
    let high = c.first_moment-moment.ensures.high in
    let back_m : to_z w64 (of_z w64 m) ≡ m = omega (arith, signed_arith) in
    let next = c.transition_of-next.result in
    let second = c.transition_of-next.ensures.second ∙ ap (cycle_second c.args.cycle) back_m in
    let before = c.transition_of-next.ensures.before ∙ ap (cycle_type c.args.cycle) back_m in
    let slow = c.transition_of-next.ensures.second_low in
    let shigh = c.transition_of-next.ensures.second_high in
    let lv = c.low.ensures.value in
    let lr = c.low.ensures.in_range in
    let lr0 = lr.0 in
    let lr1 = lr.1 in
    let sum : to_z w64 (of_z w64 (to_z w64 (of_z w64 next.second) +ℤ to_z w64 (of_z w64 c.low.result))) ≡ next.second +ℤ c.low.result = omega
    (arith, signed_arith) in
    record {
      moment_in = (omega (arith, signed_arith), omega (arith, signed_arith));
      from_in = (omega (arith, signed_arith), omega (arith, signed_arith));
      from_local_in = (omega (arith, signed_arith), omega (arith, signed_arith));
    }

pub returns-clause-some : goal.returns-clause-some
returns-clause-some c =
    let first = c.args.first in
    let rows = c.args.rows.now in
    let m = c.first_moment-moment.result in
    let low = c.first_moment-moment.ensures.low in
    let high = c.first_moment-moment.ensures.high in
    let back_m : to_z w64 (of_z w64 m) ≡ m = omega (arith, signed_arith) in
    let next = c.transition_of-next.result in
    let second = c.transition_of-next.ensures.second ∙ ap (cycle_second c.args.cycle) back_m in
    let before = c.transition_of-next.ensures.before ∙ ap (cycle_type c.args.cycle) back_m in
    let slow = c.transition_of-next.ensures.second_low in
    let shigh = c.transition_of-next.ensures.second_high in
    let lv = c.low.ensures.value in
    let lr = c.low.ensures.in_range in
    let lr0 = lr.0 in
    let lr1 = lr.1 in
    let sum : to_z w64 (of_z w64 (to_z w64 (of_z w64 next.second) +ℤ to_z w64 (of_z w64 c.low.result))) ≡ next.second +ℤ c.low.result = omega
    (arith, signed_arith) in
    let at_m = ap (cycle_second c.args.cycle) back_m in
    let type_m = ap (cycle_type c.args.cycle) back_m in
    let same : cycle_second c.args.cycle (to_z w64 (of_z w64 m)) +ℤ low_offset c.args.cycle ≡ to_z w64
    (of_z w64 (to_z w64 (of_z w64 next.second) +ℤ to_z w64 (of_z w64 c.low.result))) = omega (arith, signed_arith) in
    let from : to_z w64 (of_z w64 next.second) ≡ cycle_second c.args.cycle (to_z w64 (of_z w64 m)) = omega (arith, signed_arith) in
    let kind = c.is.ensures.0 c.if-not-is.false in
    let clear = c.is_clear.ensures.0 c.if-not-is_clear.false in (
      refl,
      tail_joined first rows _ c.requires (c.runs_forward.ensures.0 c.if-not-runs_forward.false)
          (subst (IsFirstMoment rows c.args.cycle) (sym back_m) c.first_moment-moment.ensures.moment)
          (sym (c.type_after.ensures) ∙ sym kind ∙ before ∙ sym type_m)
          (λ k last. subst (λ (z : ℤ). row_end (row_at rows k) ≤ℤ z) (sym same) (clear k last)) from (sym same),
    )
