use Rattle.std.proofs.Common.{rules, arith, length, ◌≤◌, ◌≡◌, ◌∙◌, ◌∷◌, Some, None}
use Rattle.calendar_values.specs.SignedArith.{signed_arith}
use Rattle.std.proofs.lemmas.Bool.Decides.{Decides-eqb}
use Rattle.std.proofs.lemmas.Slice.Eq.{strip_prefix_is}
use Rattle.times_bench.proofs.NumberLemmas.{i64_of-short, no_minus, digits_below}
use Rattle.times_bench.proofs.numbers.parse_i64.Goals as goal

pub returns-in_err-parse_digits : goal.returns-in_err-parse_digits
returns-in_err-parse_digits c =
    let begins = rw c.as_slice.ensures at (strip_prefix_is Decides-eqb c.args.text.now _ (Some c.in-Some.digits) c.in-Some.ensures.cases) in
    let refused : c.from_residual.result ≡ None = search rules in
    let short : length c.in-Some.digits.now ≤ 18 = omega (arith, c.in-Some.ensures.cases.2) in
    rw begins (refused ∙ i64_of-short (45 ∷ c.in-Some.digits.now) None short c.in_err-parse_digits.ensures)

pub returns-in-Some : goal.returns-in-Some
returns-in-Some c =
    let digits = c.in-Some.digits.now in
    let begins = rw c.as_slice.ensures at (strip_prefix_is Decides-eqb c.args.text.now _ (Some c.in-Some.digits) c.in-Some.ensures.cases) in
    let read = c.in_ok-parse_digits.ensures in
    let short : length digits ≤ 18 = omega (arith, c.in-Some.ensures.cases.2) in
    rw begins (i64_of-short (45 ∷ digits) _ short (read.0, omega (arith, signed_arith, read.1, digits_below digits 18 read.0.1 short)))

pub returns : goal.returns
returns c =
    let text = c.args.text.now in
    let none = rw c.as_slice.ensures at (strip_prefix_is Decides-eqb text _ None c.in_default.ensures.cases) in
    let plain = no_minus text none in
    i64_of-short text c.parse_digits-2.result (rw plain (omega arith)) (rw plain c.parse_digits-2.ensures)
