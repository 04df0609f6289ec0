use Rattle.std.proofs.Common.{arith}
use Rattle.std.proofs.lemmas.Int.{ints}
use Rattle.utc_times.specs.UnixTime.{instant_of_second}
use Rattle.utc_times.specs.UnixTimeLemmas.{OkIff-instant, OkIff-same}
use Rattle.utc_times.proofs.utc_date_time.UtcDateTime.from_unix_timestamp.Goals as goal

pub returns : goal.returns
returns c =
    let value = OkIff-same _ _ (instant_of_second c.args.timestamp) c.after_second.ensures.value (omega (arith, ints)) in
    let refused = c.after_second.ensures.refused in
    record { value = value; refused = refused; equation = OkIff-instant _ _ _ value refused }
