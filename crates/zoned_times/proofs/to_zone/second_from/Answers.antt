use Rattle.std.proofs.Common.{◌≡◌, ◌∙◌, ℕ, ◌<◌, to_z, of_z, arith, sym, subst}
use mir.Syntax.{w64}
use Rattle.calendar_values.specs.SignedArith.{signed_arith}
use Rattle.zoned_times.proofs.PlaceLemmas.{IsSecond-local, IsSecond-next, second-before_whole, second-before_part}
use Rattle.zoned_times.proofs.to_zone.second_from.Goals as goal

pub overflow_add-result : goal.overflow_add-result
overflow_add-result c =
    let is = c.unix_timestamp-second.ensures in
    let range = IsSecond-local c.args.at c.offset-in_range.ensures.self_in_range in
    omega (arith, signed_arith)

pub returns-then-nanosecond-eq0-clause-value : goal.returns-then-nanosecond-eq0-clause-value
returns-then-nanosecond-eq0-clause-value c =
    let is = c.unix_timestamp-second.ensures in
    let range = IsSecond-local c.args.at c.offset-in_range.ensures.self_in_range in
    let whole = second-before_whole c.args.at (sym c.nanosecond.ensures.value ∙ c.if-nanosecond-eq0.true) in
    omega (arith, signed_arith)

pub returns-then-nanosecond-eq0-clause-in_range : goal.returns-then-nanosecond-eq0-clause-in_range
returns-then-nanosecond-eq0-clause-in_range c =
    let is = c.unix_timestamp-second.ensures in
    let range = IsSecond-local c.args.at c.offset-in_range.ensures.self_in_range in
    (omega (arith, signed_arith), omega (arith, signed_arith))

pub returns-else-nanosecond-eq0-clause-value : goal.returns-else-nanosecond-eq0-clause-value
returns-else-nanosecond-eq0-clause-value c =
    let is = c.unix_timestamp-second.ensures in
    let range = IsSecond-local c.args.at c.offset-in_range.ensures.self_in_range in
    let n = c.nanosecond.ensures.value in
    let not_whole = c.if-nanosecond-eq0.false in
    let more : 0 < c.nanosecond.result = omega arith in
    let part = second-before_part c.args.at (subst (λ (m : ℕ). 0 < m) n more) in
    let e : to_z w64 (of_z w64 c.unix_timestamp-second.result) ≡ c.unix_timestamp-second.result = omega (arith, signed_arith) in
    omega (arith, signed_arith)

pub returns-else-nanosecond-eq0-clause-in_range : goal.returns-else-nanosecond-eq0-clause-in_range
returns-else-nanosecond-eq0-clause-in_range c =
    let is = c.unix_timestamp-second.ensures in
    let range = IsSecond-local c.args.at c.offset-in_range.ensures.self_in_range in
    let next = IsSecond-next c.args.at c.offset-in_range.ensures.self_in_range in
    let e : to_z w64 (of_z w64 c.unix_timestamp-second.result) ≡ c.unix_timestamp-second.result = omega (arith, signed_arith) in
    (omega (arith, signed_arith), omega (arith, signed_arith))
