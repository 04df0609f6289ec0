use Rattle.std.proofs.Common.{rules, arith, refl, true, false, ◌≡◌, ◌∙◌, sym, pos, None, Some, w64, FitsSigned}
use Rattle.std.proofs.lemmas.Int.{to_z-of_z}
use Rattle.calendar_values.specs.Range.{is_outside}
use Rattle.calendar_values.specs.SignedArith.{signed_casts}
use Rattle.times_bench.proofs.NumberLemmas.{up_to-i64}
use Rattle.times_bench.proofs.numbers.parse_up_to.Goals as goal
use Rattle.times_bench.proofs.numbers.parse_up_to.Goals.{then-number-lt0-via-then-number-lt0, then-number-lt0-via-else-number-lt0+then-number-from}

pub returns-in_err-number-clause-value : goal.returns-in_err-number-clause-value
returns-in_err-number-clause-value c =
    let refused : c.from_residual.result ≡ None = search rules in
    refused ∙ sym (up_to-i64 c.args.most c.args.text.now None (omega arith) (search rules))

pub returns-then-number-lt0-clause-value : goal.returns-then-number-lt0-clause-value
returns-then-number-lt0-clause-value c =
    let value = c.in_ok-number.number in
    let outside : is_outside (pos 0) (pos c.args.most) value ≡ true = elim c.then-number-lt0.branch [
      | then-number-lt0-via-then-number-lt0 w ↦ grind (arith, signed_casts)
      | then-number-lt0-via-else-number-lt0+then-number-from w ↦ grind (arith, signed_casts)
    ] in
    sym (up_to-i64 c.args.most c.args.text.now (Some value) (omega arith) (search rules) ∙ rw outside refl)

pub returns-clause-value : goal.returns-clause-value
returns-clause-value c =
    let value = c.in_ok-number.number in
    let fits : FitsSigned w64 value = search rules in
    let inside : is_outside (pos 0) (pos c.args.most) value ≡ false = grind (arith, signed_casts) in
    rw (to_z-of_z w64 value fits) (sym (up_to-i64 c.args.most c.args.text.now (Some value) (omega arith) (search rules) ∙ rw inside refl))
