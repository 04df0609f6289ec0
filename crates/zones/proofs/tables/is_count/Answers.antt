use Rattle.std.proofs.Common.{rules, ◌≡◌, ℤ, IsTrue, FitsSigned, to_z, of_z, arith}
use mir.Syntax.{w64}
use Rattle.calendar_values.specs.SignedArith.{signed_arith}
use Rattle.zones.proofs.TableLemmas.{count_is}
use Rattle.zones.proofs.tables.is_count.Goals as goal

back : (z : ℤ) → FitsSigned w64 z → to_z w64 (of_z w64 z) ≡ z
back z h = omega (arith, signed_arith)

pub returns : goal.returns
returns c = λ t.
    let rows = c.args.rows.now in
    let e = back c.args.second c.ranges.second in
    let begun : IsTrue c.has_begun.result = search rules in
    let ahead : IsTrue c.is_ahead.result = search rules in
    count_is c.args.first rows c.requires.forward c.args.second c.args.count c.requires.bound
    (λ k l. let passed = c.has_begun.ensures begun k l in omega (arith, signed_arith))
    (λ l. let next = c.is_ahead.ensures ahead l in omega (arith, signed_arith))
