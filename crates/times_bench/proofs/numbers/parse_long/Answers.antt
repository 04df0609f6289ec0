use Rattle.std.proofs.Common.{rules, None}
use Rattle.times_bench.proofs.NumberLemmas.{IsUtf8-number, i64_of-is}
use Rattle.times_bench.proofs.numbers.parse_long.Goals as goal

pub returns-then-eq : goal.returns-then-eq
returns-then-eq c = i64_of-is c.args.text.now None (search rules)

pub returns-in-Ok : goal.returns-in-Ok
returns-in-Ok c = i64_of-is c.args.text.now c.ok.result (search rules)

pub returns-in-Err : goal.returns-in-Err
returns-in-Err c = i64_of-is c.args.text.now None (λ n. c.in-Err.ensures.cases.0 (IsUtf8-number c.args.text.now n.digits))
