use Rattle.std.proofs.Common.{◌≡◌, ◌+◌, pos, ◌+ℤ◌, to_z, of_z, arith, refl, subst, below_more}
use mir.Syntax.{w64}
use Rattle.calendar_values.specs.SignedArith.{signed_casts}
use Rattle.zones.specs.Cycles.{IsApart}
use Rattle.zones.proofs.CycleLemmas.{all_apart}
use Rattle.zones.proofs.cycle.Cycle.runs_forward.Goals as goal

pub loop-i-preserved : goal.loop-i-preserved
loop-i-preserved c =
    let same : to_z w64 (of_z w64 (pos 4000 +ℤ to_z w64 c.loop-i.i)) ≡ pos (4000 + c.loop-i.i) = omega (arith, signed_casts) in
    below_more (λ k. IsApart c.args.self (pos (4000 + k))) c.loop-i.i c.loop-i.invariant
    (subst (IsApart c.args.self) same (c.is_apart.ensures.0 c.if-not-is_apart.false))

pub returns : goal.returns
returns c = (λ t. all_apart c.args.self (λ k l. c.loop-i.invariant k (omega arith)), λ r. refl)

pub returns-then-not-is_apart : goal.returns-then-not-is_apart
returns-then-not-is_apart c = (λ t. cc, λ r. (let yes = c.is_apart.ensures.1 (r _) in cc))
