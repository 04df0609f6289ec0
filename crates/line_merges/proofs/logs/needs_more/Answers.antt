use Rattle.std.proofs.Common.{◌≡◌, ◌<◌, ◌≤◌, inr, sym, ap, ◌∙◌, arith, length, true, false, nat_lt}
use Rattle.std.proofs.lemmas.Bool.Decides.{nat_tests}
use Rattle.line_merges.proofs.LineLemmas.{feed_found}
use Rattle.line_merges.proofs.logs.needs_more.Goals as goal

pub returns-then-end-len-clause-enough : goal.returns-then-end-len-clause-enough
returns-then-end-len-clause-enough c = λ no.
    let found = c.line_end-end.ensures in
    let low : c.line_end-end.result < length c.args.front.now.buffer = omega (arith, c.if-end-len.true, c.len.ensures, ap length found.same) in
    let test : nat_lt c.line_end-end.result (length c.args.front.now.buffer) ≡ true = grind (arith, nat_tests, low) in
    inr (inr (sym (feed_found c.args.front.now.buffer c.line_end-end.result found.before found.byte_there found.bound) ∙ test))

pub returns-clause-more : goal.returns-clause-more
returns-clause-more c = λ more.
    let found = c.line_end-end.ensures in
    let all : length c.args.front.now.buffer ≤ c.line_end-end.result = omega (arith, c.if-end-len.false, c.len.ensures, ap length found.same) in
    let test : nat_lt c.line_end-end.result (length c.args.front.now.buffer) ≡ false = grind (arith, nat_tests, all) in
    let few : c.line_end-end.result < 65536 = grind (arith, nat_tests, more) in (
      c.if-front.false,
      omega (arith, few, all),
      sym (feed_found c.args.front.now.buffer c.line_end-end.result found.before found.byte_there found.bound) ∙ test,
    )
