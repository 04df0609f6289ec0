use Rattle.std.proofs.Common.{◌≡◌, arith, rules, ◌+ℤ◌, to_z, of_z, w8, w32}
use Rattle.calendar_values.specs.SignedArith.{signed_casts}
use Rattle.offset_times.proofs.carries.lifted_part.Goals as goal

pub overflow_add-result : goal.overflow_add-result
overflow_add-result c =
    let moved : to_z w32 (of_z w32 c.moved_part.result) ≡ c.moved_part.result = search rules in
    let own : to_z w8 (of_z w8 c.args.carried) ≡ c.args.carried = search rules in
    let carried : to_z w32 (of_z w32 (to_z w8 (of_z w8 c.args.carried))) ≡ c.args.carried = omega (arith, signed_casts) in
    let from : to_z w8 (of_z w8 c.args.from) ≡ c.args.from = search rules in
    let to : to_z w8 (of_z w8 c.args.to) ≡ c.args.to = search rules in
    omega (arith, signed_casts)

pub overflow_add-result-2 : goal.overflow_add-result-2
overflow_add-result-2 c =
    let moved : to_z w32 (of_z w32 c.moved_part.result) ≡ c.moved_part.result = search rules in
    let own : to_z w8 (of_z w8 c.args.carried) ≡ c.args.carried = search rules in
    let carried : to_z w32 (of_z w32 (to_z w8 (of_z w8 c.args.carried))) ≡ c.args.carried = omega (arith, signed_casts) in
    let from : to_z w8 (of_z w8 c.args.from) ≡ c.args.from = search rules in
    let to : to_z w8 (of_z w8 c.args.to) ≡ c.args.to = search rules in
    let sum : to_z w32 (of_z w32 (to_z w32 (of_z w32 c.moved_part.result) +ℤ to_z w32 (of_z w32 (to_z w8 (of_z w8 c.args.carried))))) ≡
    c.moved_part.result +ℤ c.args.carried = omega (arith, signed_casts) in
    omega (arith, signed_casts)

pub overflow_cast-result-2 : goal.overflow_cast-result-2
overflow_cast-result-2 c =
    let moved : to_z w32 (of_z w32 c.moved_part.result) ≡ c.moved_part.result = search rules in
    let own : to_z w8 (of_z w8 c.args.carried) ≡ c.args.carried = search rules in
    let carried : to_z w32 (of_z w32 (to_z w8 (of_z w8 c.args.carried))) ≡ c.args.carried = omega (arith, signed_casts) in
    let from : to_z w8 (of_z w8 c.args.from) ≡ c.args.from = search rules in
    let to : to_z w8 (of_z w8 c.args.to) ≡ c.args.to = search rules in
    let sum : to_z w32 (of_z w32 (to_z w32 (of_z w32 c.moved_part.result) +ℤ to_z w32 (of_z w32 (to_z w8 (of_z w8 c.args.carried))))) ≡
    c.moved_part.result +ℤ c.args.carried = omega (arith, signed_casts) in
    omega (arith, signed_casts)

pub returns : goal.returns
returns c =
    let moved : to_z w32 (of_z w32 c.moved_part.result) ≡ c.moved_part.result = search rules in
    let own : to_z w8 (of_z w8 c.args.carried) ≡ c.args.carried = search rules in
    let carried : to_z w32 (of_z w32 (to_z w8 (of_z w8 c.args.carried))) ≡ c.args.carried = omega (arith, signed_casts) in
    let from : to_z w8 (of_z w8 c.args.from) ≡ c.args.from = search rules in
    let to : to_z w8 (of_z w8 c.args.to) ≡ c.args.to = search rules in
    let sum : to_z w32 (of_z w32 (to_z w32 (of_z w32 c.moved_part.result) +ℤ to_z w32 (of_z w32 (to_z w8 (of_z w8 c.args.carried))))) ≡
    c.moved_part.result +ℤ c.args.carried = omega (arith, signed_casts) in
    omega (arith, signed_casts)
