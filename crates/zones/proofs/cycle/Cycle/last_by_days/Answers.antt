use Rattle.std.proofs.Common.{◌≡◌, ◌+◌, ◌-◌, ◌<◌, ℤ, pos, neg_ℤ, ◌+ℤ◌, ◌-ℤ◌, ◌*ℤ◌, ◌<ℤ◌, to_z, of_z, arith, sym, ap, subst, ◌∙◌}
use Rattle.std.proofs.lemmas.Int.{by_lt_z}
use mir.Syntax.{w64}
use borrow.Author.Differences.{up, down}
use Rattle.calendar_values.specs.SignedArith.{signed_arith}
use Rattle.zones.specs.Cycles.{cycle_second}
use Rattle.zones.proofs.CycleLemmas.{far_back, far_on}
use Rattle.zones.proofs.MonthsLemmas.{two_back}
use Rattle.zones.proofs.cycle.Cycle.last_by_days.Goals as goal

pub on-init : goal.on-init
on-init c =
    let y = c.year_near-moment.result in
    let year = c.year_near-moment.ensures in
    let yl = year.0 in
    let yh = year.1 in
    let back_m = (two_back y year).0 in
    let v = c.second_of.ensures.value in
    let v0 = c.second_of.ensures.low in
    let v1 = c.second_of.ensures.high in
    let t0 = ap (cycle_second c.args.self) back_m in
    record { low = omega (arith, signed_arith); high = omega (arith, signed_arith); begun = omega (arith, signed_arith) }

pub on-smaller : goal.on-smaller
on-smaller c =
    let m = to_z w64 c.on.moment-bits in
    let low = c.second_of-in-on.ensures.low in
    let high = c.second_of-in-on.ensures.high in
    let next : to_z w64 (of_z w64 (m +ℤ pos 1)) ≡ m +ℤ pos 1 = omega (arith, signed_arith) in
    let v = c.second_of-in-on.ensures.value ∙ ap (cycle_second c.args.self) next in
    let strict : (m +ℤ pos 1) <ℤ pos 2_390_000 = by_lt_z (m +ℤ pos 1) (pos 2_390_000) (λ lt. lt)
    (λ ge. let far = far_on c.args.self (m +ℤ pos 1) ge in absurd (omega (arith, signed_arith))) in
    let less : down (m +ℤ pos 1) + 2_390_000 - up (m +ℤ pos 1) < down m + 2_390_000 - up m = omega (arith, signed_arith) in
    subst (λ (z : ℤ). down z + 2_390_000 - up z < down m + 2_390_000 - up m) (sym next) less

pub on-preserved : goal.on-preserved
on-preserved c =
    let m = to_z w64 c.on.moment-bits in
    let low = c.second_of-in-on.ensures.low in
    let high = c.second_of-in-on.ensures.high in
    let next : to_z w64 (of_z w64 (m +ℤ pos 1)) ≡ m +ℤ pos 1 = omega (arith, signed_arith) in
    let v = c.second_of-in-on.ensures.value ∙ ap (cycle_second c.args.self) next in
    let strict : (m +ℤ pos 1) <ℤ pos 2_390_000 = by_lt_z (m +ℤ pos 1) (pos 2_390_000) (λ lt. lt)
    (λ ge. let far = far_on c.args.self (m +ℤ pos 1) ge in absurd (omega (arith, signed_arith))) in
    let t = ap (cycle_second c.args.self) next in
    record { low = omega (arith, signed_arith); high = omega (arith, signed_arith); begun = omega (arith, signed_arith) }

pub returns-then-second_of-second-clause-not_next : goal.returns-then-second_of-second-clause-not_next
returns-then-second_of-second-clause-not_next c =
    let m = to_z w64 c.on.moment-bits in
    let low = c.second_of-in-on.ensures.low in
    let high = c.second_of-in-on.ensures.high in
    let next : to_z w64 (of_z w64 (m +ℤ pos 1)) ≡ m +ℤ pos 1 = omega (arith, signed_arith) in
    let v = c.second_of-in-on.ensures.value ∙ ap (cycle_second c.args.self) next in
    omega (arith, signed_arith)

pub back-init : goal.back-init
back-init c =
    let y = c.year_near-moment.result in
    let year = c.year_near-moment.ensures in
    let yl = year.0 in
    let yh = year.1 in
    let back_m = (two_back y year).0 in
    let v = c.second_of.ensures.value in
    let v0 = c.second_of.ensures.low in
    let v1 = c.second_of.ensures.high in
    let t0 = ap (cycle_second c.args.self) back_m in
    let less = (two_back y year).2 in
    let up_again : to_z w64 (of_z w64 (to_z w64 (of_z w64 (pos 2 *ℤ to_z w64 (of_z w64 y))) -ℤ pos 1)) +ℤ pos 1 ≡ pos 2 *ℤ y = omega (arith, signed_arith) in
    let t = ap (cycle_second c.args.self) up_again in
    record { low = omega (arith, signed_arith); high = omega (arith, signed_arith); ahead = omega (arith, signed_arith) }

pub back-smaller : goal.back-smaller
back-smaller c =
    let m = to_z w64 c.back.moment-bits in
    let low = c.second_of-in-back.ensures.low in
    let high = c.second_of-in-back.ensures.high in
    let v = c.second_of-in-back.ensures.value in
    let strict : neg_ℤ (pos 2_390_000) <ℤ m = by_lt_z (neg_ℤ (pos 2_390_000)) m (λ lt. lt)
    (λ ge. let far = far_back c.args.self m ge in absurd (omega (arith, signed_arith))) in
    let next : to_z w64 (of_z w64 (m -ℤ pos 1)) ≡ m -ℤ pos 1 = omega (arith, signed_arith) in
    let less : up (m -ℤ pos 1) + 2_390_000 - down (m -ℤ pos 1) < up m + 2_390_000 - down m = omega (arith, signed_arith) in
    subst (λ (z : ℤ). up z + 2_390_000 - down z < up m + 2_390_000 - down m) (sym next) less

pub back-preserved : goal.back-preserved
back-preserved c =
    let m = to_z w64 c.back.moment-bits in
    let low = c.second_of-in-back.ensures.low in
    let high = c.second_of-in-back.ensures.high in
    let v = c.second_of-in-back.ensures.value in
    let strict : neg_ℤ (pos 2_390_000) <ℤ m = by_lt_z (neg_ℤ (pos 2_390_000)) m (λ lt. lt)
    (λ ge. let far = far_back c.args.self m ge in absurd (omega (arith, signed_arith))) in
    let next : to_z w64 (of_z w64 (m -ℤ pos 1)) ≡ m -ℤ pos 1 = omega (arith, signed_arith) in
    let again : to_z w64 (of_z w64 (m -ℤ pos 1)) +ℤ pos 1 ≡ m = omega (arith, signed_arith) in
    let t = ap (cycle_second c.args.self) again in
    record { low = omega (arith, signed_arith); high = omega (arith, signed_arith); ahead = omega (arith, signed_arith) }
