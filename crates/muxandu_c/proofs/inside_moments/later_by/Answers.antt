use Rattle.std.proofs.Common.{◌≡◌, ◌<ℤ◌, ◌+ℤ◌, pos, neg_ℤ, arith, rules, w32, to_z, of_z}
use Rattle.std.specs.Int.{int_div_euclid, int_rem_euclid}
use Rattle.calendar_values.specs.Clock.{nanos_per_second}
use Rattle.calendar_values.specs.SignedArith.{signed_arith}
use Rattle.muxandu_c.proofs.InsideMomentLemmas.{sum-of, sum-fits, sum-seconds, sum-moment, carried-range}
use Rattle.muxandu_c.proofs.inside_moments.later_by.Goals as goal

pub overflow_add-result-2 : goal.overflow_add-result-2
overflow_add-result-2 c =
    let h = c.requires.inside in
    let k = c.requires.short in
    let n = c.args.at.nanoseconds in
    let v = c.args.nanoseconds in
    let sum = sum-of n v h.nanoseconds k.least_part k.most_part in
    let carried : c.carried_seconds-carried.result ≡ int_div_euclid (pos n +ℤ v) (pos nanos_per_second) = rw sum at c.carried_seconds-carried.ensures in
    let low : neg_ℤ (pos 1_000_000_000) <ℤ (pos n +ℤ v) = omega (arith, signed_arith, h.nanoseconds, k.least_part) in
    let high : (pos n +ℤ v) <ℤ pos 2_000_000_000 = omega (arith, signed_arith, h.nanoseconds, k.most_part) in
    let range = carried-range (pos n +ℤ v) low high in
    sum-fits c.args.at.seconds c.args.seconds c.carried_seconds-carried.result h.first h.last k.least k.most (rw carried range.0) (rw carried range.1)

pub returns : goal.returns
returns c =
    let h = c.requires.inside in
    let k = c.requires.short in
    let s = c.args.at.seconds in
    let n = c.args.at.nanoseconds in
    let w = c.args.seconds in
    let v = c.args.nanoseconds in
    let sum = sum-of n v h.nanoseconds k.least_part k.most_part in
    let carried : c.carried_seconds-carried.result ≡ int_div_euclid (pos n +ℤ v) (pos nanos_per_second) = rw sum at c.carried_seconds-carried.ensures in
    let left : pos c.left_nanoseconds.result ≡ int_rem_euclid (pos n +ℤ v) (pos nanos_per_second) = rw sum at c.left_nanoseconds.ensures in
    let low : neg_ℤ (pos 1_000_000_000) <ℤ (pos n +ℤ v) = omega (arith, signed_arith, h.nanoseconds, k.least_part) in
    let high : (pos n +ℤ v) <ℤ pos 2_000_000_000 = omega (arith, signed_arith, h.nanoseconds, k.most_part) in
    let range = carried-range (pos n +ℤ v) low high in
    let offset : to_z w32 (of_z w32 c.args.at.offset_seconds) ≡ c.args.at.offset_seconds = search rules in
    rw (sum-seconds s w c.carried_seconds-carried.result h.first h.last k.least k.most (rw carried range.0) (rw carried range.1), offset)
    (sum-moment s w v c.args.at.offset_seconds c.carried_seconds-carried.result n c.left_nanoseconds.result carried left)
