use Rattle.std.proofs.Common.{arith, rules, sym, ◌∙◌, FitsSigned, w32, w64, to_z-of_z, pos, int_rem}
use Rattle.calendar_values.specs.AdjustmentLemmas.{subday_nanoseconds_of-parts}
use Rattle.calendar_values.specs.SignedArith.{signed_arith}
use Rattle.calendar_values.proofs.time.sums.subday_nanoseconds.Goals as goal

pub returns-clause-value : goal.returns-clause-value
returns-clause-value c =
    let fits_seconds : FitsSigned w64 c.whole_seconds.result = search rules in
    let fits_rest : FitsSigned w64 (int_rem c.whole_seconds.result (pos 86_400)) = omega (arith, signed_arith) in
    let fits_nanoseconds : FitsSigned w32 c.subsec_nanoseconds.result = search rules in
    let fits : FitsSigned w64 c.nanoseconds_of.result = search rules in
    let sum = simp to_z-of_z at c.nanoseconds_of.ensures in
    simp to_z-of_z (sum ∙ rw (c.whole_seconds.ensures.value, c.subsec_nanoseconds.ensures.value) (sym (subday_nanoseconds_of-parts c.args.duration)))
