use Rattle.std.proofs.Common.{◌≡◌, ℤ, ◌-ℤ◌, FitsSigned, to_z, of_z, arith}
use mir.Syntax.{w32, w64}
use Rattle.calendar_values.specs.Offsets.{IsOffset}
use Rattle.calendar_values.specs.SignedArith.{signed_arith}
use Rattle.zones.specs.Seconds.{IsSecond}
use Rattle.zoned_times.proofs.at_zone.offset_from.Goals as goal

-- an offset that is cast is the same offset
cast : (l t : ℤ) → IsSecond l → IsOffset (l -ℤ t) → FitsSigned w64 t
    → to_z w32 (of_z w32 (to_z w64 (of_z w64 (to_z w64 (of_z w64 l) -ℤ to_z w64 (of_z w64 t))))) ≡ l -ℤ t
cast l t second offset fits =
    let a : to_z w64 (of_z w64 l) ≡ l = omega (arith, signed_arith) in
    let b : to_z w64 (of_z w64 t) ≡ t = omega (arith, signed_arith) in
    let d : to_z w64 (of_z w64 (to_z w64 (of_z w64 l) -ℤ to_z w64 (of_z w64 t))) ≡ l -ℤ t = omega (arith, signed_arith) in
    omega (arith, signed_arith)

pub offset_of-requires : goal.offset_of-requires
offset_of-requires c =
    let is = c.second_shown.ensures.value in
    let offset = c.requires in
    let here : IsOffset (c.second_shown.result -ℤ c.args.second) = (omega (arith, signed_arith), omega (arith, signed_arith)) in
    let e = cast c.second_shown.result c.args.second c.second_shown.ensures.in_range here c.ranges.second in
    (omega (arith, signed_arith), omega (arith, signed_arith))

pub returns : goal.returns
returns c =
    let is = c.second_shown.ensures.value in
    let offset = c.requires in
    let here : IsOffset (c.second_shown.result -ℤ c.args.second) = (omega (arith, signed_arith), omega (arith, signed_arith)) in
    let e = cast c.second_shown.result c.args.second c.second_shown.ensures.in_range here c.ranges.second in
    let o = c.offset_of.ensures in
    omega (arith, signed_arith)
