use Rattle.std.proofs.Common.{◌≡◌, pos, ◌*ℤ◌, arith, sym}
use Rattle.calendar_values.specs.SignedArith.{signed_casts}
use Rattle.zones.specs.Cycles.{moment_year}
use Rattle.zones.proofs.TableLemmas.{le_yes, le_no}
use Rattle.zones.proofs.CycleLemmas.{first_type, other_type}
use Rattle.zones.proofs.cycle.Cycle.type_before.Goals as goal

pub returns-then-moment-div_euclid : goal.returns-then-moment-div_euclid
returns-then-moment-div_euclid c =
    let y : c.div_euclid.result ≡ moment_year c.args.moment = omega (arith, signed_casts) in
    sym (first_type c.args.self c.args.moment (le_yes c.args.moment (pos 2 *ℤ moment_year c.args.moment) (omega (arith, signed_casts))))

pub returns-else-moment-div_euclid : goal.returns-else-moment-div_euclid
returns-else-moment-div_euclid c =
    let y : c.div_euclid.result ≡ moment_year c.args.moment = omega (arith, signed_casts) in
    sym (other_type c.args.self c.args.moment (le_no c.args.moment (pos 2 *ℤ moment_year c.args.moment) (omega (arith, signed_casts))))
