use Rattle.std.proofs.Common.{◌≡◌, ℤ, pos, neg_ℤ, ◌+ℤ◌, ◌≤ℤ◌, to_z, of_z, arith, ap, ◌∙◌}
use Rattle.std.proofs.lemmas.Int.{clamps}
use Rattle.std.specs.Int.{int_max}
use mir.Syntax.{w64, w32}
use Rattle.calendar_values.specs.SignedArith.{signed_arith}
use Rattle.zones.proofs.zone.instants.instants_by.Goals as goal

pub returns-then-local-row : goal.returns-then-local-row
returns-then-local-row c =
    let bi = c.args.row.before.offset_in in
    let ai = c.args.row.after.offset_in in
    let si = c.args.row.second_in in
    let b : to_z w64 (of_z w64 (to_z w32 (of_z w32 c.args.row.before.offset))) ≡ c.args.row.before.offset = omega (arith, signed_arith) in
    let a : to_z w64 (of_z w64 (to_z w32 (of_z w32 c.args.row.after.offset))) ≡ c.args.row.after.offset = omega (arith, signed_arith) in
    let m : c.max.result ≡ int_max c.args.row.before.offset c.args.row.after.offset = c.max.ensures.value ∙ ap
    (int_max (to_z w64 (of_z w64 (to_z w32 (of_z w32 c.args.row.before.offset))))) a ∙ ap (λ (z : ℤ). int_max z c.args.row.after.offset) b in
    let low : neg_ℤ (pos 93_599) ≤ℤ c.max.result = omega (arith, signed_arith, clamps) in
    let high : c.max.result ≤ℤ pos 93_599 = omega (arith, signed_arith, clamps) in
    let e : to_z w64 (of_z w64 (to_z w64 (of_z w64 c.args.row.second) +ℤ to_z w64 (of_z w64 c.max.result))) ≡ c.args.row.second +ℤ c.max.result = omega
    (arith, signed_arith) in
    (omega (arith, signed_arith), omega (arith, signed_arith))

pub returns-then-before-after : goal.returns-then-before-after
returns-then-before-after c =
    let bi = c.args.row.before.offset_in in
    let ai = c.args.row.after.offset_in in
    let si = c.args.row.second_in in
    let b : to_z w64 (of_z w64 (to_z w32 (of_z w32 c.args.row.before.offset))) ≡ c.args.row.before.offset = omega (arith, signed_arith) in
    let a : to_z w64 (of_z w64 (to_z w32 (of_z w32 c.args.row.after.offset))) ≡ c.args.row.after.offset = omega (arith, signed_arith) in
    let m : c.max.result ≡ int_max c.args.row.before.offset c.args.row.after.offset = c.max.ensures.value ∙ ap
    (int_max (to_z w64 (of_z w64 (to_z w32 (of_z w32 c.args.row.before.offset))))) a ∙ ap (λ (z : ℤ). int_max z c.args.row.after.offset) b in
    let low : neg_ℤ (pos 93_599) ≤ℤ c.max.result = omega (arith, signed_arith, clamps) in
    let high : c.max.result ≤ℤ pos 93_599 = omega (arith, signed_arith, clamps) in
    let e : to_z w64 (of_z w64 (to_z w64 (of_z w64 c.args.row.second) +ℤ to_z w64 (of_z w64 c.max.result))) ≡ c.args.row.second +ℤ c.max.result = omega
    (arith, signed_arith) in
    (omega (arith, signed_arith), omega (arith, signed_arith), omega (arith, signed_arith), omega (arith, signed_arith), omega (arith, signed_arith))

pub returns : goal.returns
returns c =
    let bi = c.args.row.before.offset_in in
    let ai = c.args.row.after.offset_in in
    let si = c.args.row.second_in in
    let b : to_z w64 (of_z w64 (to_z w32 (of_z w32 c.args.row.before.offset))) ≡ c.args.row.before.offset = omega (arith, signed_arith) in
    let a : to_z w64 (of_z w64 (to_z w32 (of_z w32 c.args.row.after.offset))) ≡ c.args.row.after.offset = omega (arith, signed_arith) in
    let m : c.max.result ≡ int_max c.args.row.before.offset c.args.row.after.offset = c.max.ensures.value ∙ ap
    (int_max (to_z w64 (of_z w64 (to_z w32 (of_z w32 c.args.row.before.offset))))) a ∙ ap (λ (z : ℤ). int_max z c.args.row.after.offset) b in
    let low : neg_ℤ (pos 93_599) ≤ℤ c.max.result = omega (arith, signed_arith, clamps) in
    let high : c.max.result ≤ℤ pos 93_599 = omega (arith, signed_arith, clamps) in
    let e : to_z w64 (of_z w64 (to_z w64 (of_z w64 c.args.row.second) +ℤ to_z w64 (of_z w64 c.max.result))) ≡ c.args.row.second +ℤ c.max.result = omega
    (arith, signed_arith) in
    (omega (arith, signed_arith), omega (arith, signed_arith), omega (arith, signed_arith), omega (arith, signed_arith))
