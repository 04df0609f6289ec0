use Rattle.std.proofs.Common.{◌≡◌, arith, rules, to_z, of_z, w64}
use Rattle.stamp_times.specs.TimestampLemmas.{instant_of_parts-of}
use Rattle.stamp_times.proofs.timestamp.Timestamp.from_utc.Goals as goal

pub invariant_of-result : goal.invariant_of-result
invariant_of-result c =
    let second : to_z w64 (of_z w64 c.unix_timestamp.result) ≡ c.unix_timestamp.result = search rules in (
      rw (second, c.unix_timestamp.ensures.value, c.nanosecond.ensures.value, instant_of_parts-of) c.unix_timestamp.ensures.self_in_range,
      omega arith,
    )

pub returns : goal.returns
returns c =
    let second : to_z w64 (of_z w64 c.unix_timestamp.result) ≡ c.unix_timestamp.result = search rules in
    rw (second, c.unix_timestamp.ensures.value, c.nanosecond.ensures.value) (instant_of_parts-of c.args.at)
