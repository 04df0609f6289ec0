use Rattle.std.proofs.Common.{rules, ◌≡◌, ℤ, IsTrue, FitsSigned, to_z, of_z, arith}
use mir.Syntax.{w64}
use Rattle.calendar_values.specs.SignedArith.{signed_arith}
use Rattle.zones.proofs.TableLemmas.{start_count_is}
use Rattle.zones.proofs.tables.is_start_count.Goals as goal

back : (z : ℤ) → FitsSigned w64 z → to_z w64 (of_z w64 z) ≡ z
back z h = omega (arith, signed_arith)

pub returns : goal.returns
returns c = λ t.
    let rows = c.args.rows.now in
    let e = back c.args.local c.ranges.local in
    let begun : IsTrue c.has_started.result = search rules in
    let ahead : IsTrue c.starts_later.result = search rules in
    start_count_is c.args.first rows c.requires.forward c.args.local c.args.count c.requires.bound
    (λ k l. let passed = c.has_started.ensures begun k l in omega (arith, signed_arith))
    (λ l. let next = c.starts_later.ensures ahead l in omega (arith, signed_arith))
