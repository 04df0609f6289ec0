use Rattle.std.proofs.Common.{◌≡◌, ◌-ℤ◌, rules, to_z, of_z, w64}
use Rattle.calendar_values.specs.WallClock.{unix_seconds_of}
use Rattle.muxandu_c.proofs.OrderLemmas.{instant-order}
use Rattle.muxandu_c.proofs.parts.order.Goals as goal

pub returns : goal.returns
returns c =
    let v = c.wall_of-at.result in
    let w = c.wall_of-other.result in
    let s : to_z w64 (of_z w64 c.seconds_less-seconds.result) ≡ unix_seconds_of v -ℤ c.args.first.offset = search rules in
    let t : to_z w64 (of_z w64 c.seconds_less-other_seconds.result) ≡ unix_seconds_of w -ℤ c.args.second.offset = search rules in
    let n = rw c.nanosecond.ensures.value at c.nanosecond.ensures.in_range in
    let m = rw c.nanosecond-2.ensures.value at c.nanosecond-2.ensures.in_range in
    rw (c.then.ensures, c.cmp.ensures, c.cmp-2.ensures, s, t, c.nanosecond.ensures.value, c.nanosecond-2.ensures.value)
    (instant-order c.args.first c.args.second v w c.wall_of-at.ensures.value c.wall_of-other.ensures.value n m)
