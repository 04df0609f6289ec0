use Rattle.std.proofs.Common.{◌≡◌, pos, ◌*ℤ◌, to_z, of_z, arith, ap, ◌∙◌}
use mir.Syntax.{w64}
use Rattle.calendar_values.specs.SignedArith.{signed_casts}
use Rattle.zones.specs.Cycles.{moment_year, local_second}
use Rattle.zones.proofs.TableLemmas.{le_yes, le_no}
use Rattle.zones.proofs.CycleLemmas.{first_second, other_second}
use Rattle.zones.proofs.cycle.Cycle.second_of.Goals as goal

pub returns-then-moment-year-clause-value : goal.returns-then-moment-year-clause-value
returns-then-moment-year-clause-value c =
    let y : c.div_euclid-year.result ≡ moment_year c.args.moment = omega (arith, signed_casts) in
    let back : to_z w64 (of_z w64 c.div_euclid-year.result) ≡ moment_year c.args.moment = omega (arith, signed_casts) in
    let l = c.local_in_year.ensures.value ∙ ap (local_second c.args.self.first) back in
    let s = first_second c.args.self c.args.moment (le_yes c.args.moment (pos 2 *ℤ moment_year c.args.moment) (omega (arith, signed_casts))) in
    omega (arith, signed_casts)

pub returns-else-moment-year-clause-value : goal.returns-else-moment-year-clause-value
returns-else-moment-year-clause-value c =
    let y : c.div_euclid-year.result ≡ moment_year c.args.moment = omega (arith, signed_casts) in
    let back : to_z w64 (of_z w64 c.div_euclid-year.result) ≡ moment_year c.args.moment = omega (arith, signed_casts) in
    let l = c.local_in_year-else-moment-year.ensures.value ∙ ap (local_second c.args.self.second) back in
    let s = other_second c.args.self c.args.moment (le_no c.args.moment (pos 2 *ℤ moment_year c.args.moment) (omega (arith, signed_casts))) in
    omega (arith, signed_casts)
