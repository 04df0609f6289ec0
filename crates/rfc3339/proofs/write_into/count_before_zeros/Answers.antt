use Rattle.std.proofs.Common.{◌≡◌, ◌≤◌, ◌-◌, ◌%◌, suc, arith}
use Rattle.rfc3339.proofs.ZeroLemmas.{all_left, one_less, last_left, first_left}
use Rattle.rfc3339.proofs.write_into.count_before_zeros.Goals as goal

pub loop-count-init : goal.loop-count-init
loop-count-init c = record { left = all_left c.args.nanosecond; at_least = omega arith; at_most = omega arith }

pub returns-then-rest-ne0-clause-value : goal.returns-then-rest-ne0-clause-value
returns-then-rest-ne0-clause-value c =
    let low : 2 ≤ c.loop-count.count = omega (arith, c.loop-count-test.true) in
    last_left c.args.nanosecond c.loop-count.rest c.loop-count.count low c.if-rest-ne0.true c.loop-count.invariant.left

pub loop-count-preserved : goal.loop-count-preserved
loop-count-preserved c =
    let k = c.loop-count.count in
    let low : 2 ≤ k = omega (arith, c.loop-count-test.true) in
    let next : k ≡ suc (k - 1) = omega arith in
    let zero : c.loop-count.rest % 10 ≡ 0 = omega (arith, c.if-rest-ne0.false) in
    record {
      left = one_less c.args.nanosecond c.loop-count.rest k (k - 1) next (omega arith) zero c.loop-count.invariant.left;
      at_least = omega arith;
      at_most = omega (arith, c.loop-count.invariant.at_most);
    }

pub returns-clause-value : goal.returns-clause-value
returns-clause-value c =
    let one : c.loop-count.count ≡ 1 = omega (arith, c.loop-count-test.false, c.loop-count.invariant.at_least) in
    first_left c.args.nanosecond c.loop-count.rest c.loop-count.count one c.loop-count.invariant.left
