use Rattle.std.proofs.Common.{◌≡◌, ◌+◌, ◌*◌, ℤ, pos, ◌+ℤ◌, ◌*ℤ◌, ◌≤ℤ◌, to_z, of_z, below_more, arith, refl, subst}
use mir.Syntax.{w64}
use Rattle.calendar_values.specs.SignedArith.{signed_arith, signed_casts}
use Rattle.zones.specs.Cycles.{Meets}
use Rattle.zones.proofs.FarLemmas.{all_meet}
use Rattle.zones.proofs.cycle.Cycle.meets_in_all_years.Goals as goal

back : (z : ℤ) → (pos 0 ≤ℤ z) × (z ≤ℤ pos 1) → to_z w64 (of_z w64 z) ≡ z
back z h = omega (arith, signed_arith)

pub returns-then-not-meets : goal.returns-then-not-meets
returns-then-not-meets c =
    let n = c.requires in
    let i = c.loop-i.i in
    let bound = c.loop-i-test.true in (
      λ t. cc,
      λ h.
          let y = pos (2000 + i) in
          let same : pos 2 *ℤ y +ℤ c.args.number ≡ to_z w64
          (of_z w64 (to_z w64 (of_z w64 (pos 4000 +ℤ to_z w64 (of_z w64 c.args.number))) +ℤ to_z w64 (of_z w64 (pos 2 *ℤ to_z w64 i)))) = omega
          (arith, signed_casts) in
          let yes = c.meets.ensures.1 (subst (Meets c.args.self) same (h y)) in
          cc,
    )

pub loop-i-preserved : goal.loop-i-preserved
loop-i-preserved c =
    let n = c.requires in
    let i = c.loop-i.i in
    let bound = c.loop-i-test.true in
    let number = to_z w64 (of_z w64 c.args.number) in
    let same : to_z w64 (of_z w64 (to_z w64 (of_z w64 (pos 4000 +ℤ to_z w64 (of_z w64 c.args.number))) +ℤ to_z w64 (of_z w64 (pos 2 *ℤ to_z w64 i)))) ≡
    pos (4000 + 2 * i) +ℤ number = omega (arith, signed_casts) in
    below_more (λ k. Meets c.args.self (pos (4000 + 2 * k) +ℤ number)) i c.loop-i.invariant
    (subst (Meets c.args.self) same (c.meets.ensures.0 c.if-not-meets.false))

pub returns : goal.returns
returns c =
    let n = c.requires in (
      λ t. all_meet c.args.self c.args.number
          (λ k l. subst (λ (z : ℤ). Meets c.args.self (pos (4000 + 2 * k) +ℤ z)) (back c.args.number n) (c.loop-i.invariant k (omega arith))),
      λ h. refl,
    )
