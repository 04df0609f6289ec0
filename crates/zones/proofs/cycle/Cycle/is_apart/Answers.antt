use Rattle.std.proofs.Common.{◌≡◌, ℤ, pos, ◌+ℤ◌, ◌≤ℤ◌, to_z, of_z, arith, refl, ap, ◌∙◌}
use mir.Syntax.{w64}
use Rattle.calendar_values.specs.SignedArith.{signed_arith}
use Rattle.zones.specs.Cycles.{cycle_second}
use Rattle.zones.proofs.cycle.Cycle.is_apart.Goals as goal

IsNear : ℤ → Type 0
IsNear m = (pos 0 ≤ℤ m) × (m ≤ℤ pos 10_000)

later : (m : ℤ) → (pos 0 ≤ℤ m) × (m ≤ℤ pos 10_000) → to_z w64 (of_z w64 (to_z w64 (of_z w64 m) +ℤ pos 1)) ≡ m +ℤ pos 1
later m h = omega (arith, signed_arith)

here : (m : ℤ) → (pos 0 ≤ℤ m) × (m ≤ℤ pos 10_000) → to_z w64 (of_z w64 m) ≡ m
here m h = omega (arith, signed_arith)

pub returns-then-gap-lt1 : goal.returns-then-gap-lt1
returns-then-gap-lt1 c =
    let next : to_z w64 (of_z w64 (c.args.moment +ℤ pos 1)) ≡ c.args.moment +ℤ pos 1 = omega (arith, signed_arith) in
    let one = c.second_of.ensures.value ∙ ap (cycle_second c.args.self) (later c.args.moment c.requires.moment_in) in
    let two = c.second_of-2.ensures.value ∙ ap (cycle_second c.args.self) (here c.args.moment c.requires.moment_in) in
    let low1 = c.second_of.ensures.low in
    let high1 = c.second_of.ensures.high in
    let low2 = c.second_of-2.ensures.low in
    let high2 = c.second_of-2.ensures.high in
    let s = c.requires.shift_is in
    (λ t. cc, λ a. (let r = a.rises in absurd (omega (arith, signed_arith))))

pub returns-then-gap-shift : goal.returns-then-gap-shift
returns-then-gap-shift c =
    let next : to_z w64 (of_z w64 (c.args.moment +ℤ pos 1)) ≡ c.args.moment +ℤ pos 1 = omega (arith, signed_arith) in
    let one = c.second_of.ensures.value ∙ ap (cycle_second c.args.self) (later c.args.moment c.requires.moment_in) in
    let two = c.second_of-2.ensures.value ∙ ap (cycle_second c.args.self) (here c.args.moment c.requires.moment_in) in
    let low1 = c.second_of.ensures.low in
    let high1 = c.second_of.ensures.high in
    let low2 = c.second_of-2.ensures.low in
    let high2 = c.second_of-2.ensures.high in
    let s = c.requires.shift_is in
    (λ t. cc, λ a. (let r = a.apart in absurd (omega (arith, signed_arith))))

pub returns : goal.returns
returns c =
    let next : to_z w64 (of_z w64 (c.args.moment +ℤ pos 1)) ≡ c.args.moment +ℤ pos 1 = omega (arith, signed_arith) in
    let one = c.second_of.ensures.value ∙ ap (cycle_second c.args.self) (later c.args.moment c.requires.moment_in) in
    let two = c.second_of-2.ensures.value ∙ ap (cycle_second c.args.self) (here c.args.moment c.requires.moment_in) in
    let low1 = c.second_of.ensures.low in
    let high1 = c.second_of.ensures.high in
    let low2 = c.second_of-2.ensures.low in
    let high2 = c.second_of-2.ensures.high in
    let s = c.requires.shift_is in
    (λ t. record { rises = omega (arith, signed_arith); apart = omega (arith, signed_arith) }, λ a. refl)
