use Rattle.std.proofs.Common.{rules, refl, FitsSigned, w32, to_z-of_z}
use Rattle.muxandu_c.proofs.MonthReplacedLemmas.{with_part-month, with_part-no_month}
use Rattle.muxandu_c.proofs.replacements.with_month.Goals as goal

pub returns-in-Ok : goal.returns-in-Ok
returns-in-Ok c =
    let fits : FitsSigned w32 c.args.value = search rules in
    let number = simp to_z-of_z at c.in_ok-number.ensures.value in
    with_part-month c.args.at c.args.value c.in_ok-number.field-0 _ c.in_month.result c.in_month.ensures c.in-Ok.ensures.value
    (c.in-Ok.ensures.accepted.0 refl) number

pub returns-in-Err : goal.returns-in-Err
returns-in-Err c =
    let fits : FitsSigned w32 c.args.value = search rules in
    let number = simp to_z-of_z at c.in_ok-number.ensures.value in
    with_part-no_month c.args.at c.args.value c.in_ok-number.field-0 (λ month. let e = c.in-Err.ensures.accepted.1 month in cc) number
