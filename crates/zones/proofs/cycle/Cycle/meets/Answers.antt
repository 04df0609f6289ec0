use Rattle.std.proofs.Common.{◌≡◌, ℤ, pos, ◌+ℤ◌, ◌≤ℤ◌, to_z, of_z, arith, refl, ap, ◌∙◌}
use mir.Syntax.{w64}
use Rattle.calendar_values.specs.SignedArith.{signed_arith}
use Rattle.zones.specs.Cycles.{cycle_second}
use Rattle.zones.proofs.cycle.Cycle.meets.Goals as goal

here : (m : ℤ) → (pos 0 ≤ℤ m) × (m ≤ℤ pos 10_000) → to_z w64 (of_z w64 m) ≡ m
here m h = omega (arith, signed_arith)

later : (m : ℤ) → (pos 0 ≤ℤ m) × (m ≤ℤ pos 10_000) → to_z w64 (of_z w64 (to_z w64 (of_z w64 m) +ℤ pos 1)) ≡ m +ℤ pos 1
later m h = omega (arith, signed_arith)

pub returns-then-first-second : goal.returns-then-first-second
returns-then-first-second c =
    let l0 = c.second_of-first.ensures.low in
    let h0 = c.second_of-first.ensures.high in
    let l1 = c.second_of-second.ensures.low in
    let h1 = c.second_of-second.ensures.high in
    let one = c.second_of-first.ensures.value ∙ ap (cycle_second c.args.self) (here c.args.moment c.requires) in
    let two = c.second_of-second.ensures.value ∙ ap (cycle_second c.args.self) (later c.args.moment c.requires) in
    (λ t. cc, λ h. absurd (omega (arith, signed_arith)))

pub returns-then-second-first : goal.returns-then-second-first
returns-then-second-first c =
    let l0 = c.second_of-first.ensures.low in
    let h0 = c.second_of-first.ensures.high in
    let l1 = c.second_of-second.ensures.low in
    let h1 = c.second_of-second.ensures.high in
    let one = c.second_of-first.ensures.value ∙ ap (cycle_second c.args.self) (here c.args.moment c.requires) in
    let two = c.second_of-second.ensures.value ∙ ap (cycle_second c.args.self) (later c.args.moment c.requires) in
    (λ t. cc, λ h. absurd (omega (arith, signed_arith)))

pub returns : goal.returns
returns c =
    let l0 = c.second_of-first.ensures.low in
    let h0 = c.second_of-first.ensures.high in
    let l1 = c.second_of-second.ensures.low in
    let h1 = c.second_of-second.ensures.high in
    let one = c.second_of-first.ensures.value ∙ ap (cycle_second c.args.self) (here c.args.moment c.requires) in
    let two = c.second_of-second.ensures.value ∙ ap (cycle_second c.args.self) (later c.args.moment c.requires) in
    (λ t. omega (arith, signed_arith), λ h. refl)
