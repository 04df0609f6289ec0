use Rattle.std.proofs.Common.{◌≡◌, arith, rules, to_z, of_z}
use Rattle.std.proofs.lemmas.Int.{to_z-of_z}
use Rattle.std.specs.Int.{w32, w64}
use Rattle.calendar_values.specs.SignedArith.{signed_arith}
use Rattle.utc_times.proofs.UnixLemmas.{IsDay-near}
use Rattle.utc_times.proofs.utc_date_time.unix_time.date_of_second.Goals.{then-second-via-then-second}
use Rattle.utc_times.proofs.utc_date_time.unix_time.date_of_second.Goals.{then-second-via-else-second+then-second-gt-FARTHEST_SECOND}
use Rattle.utc_times.proofs.utc_date_time.unix_time.date_of_second.Goals as goal

pub returns-then-second : goal.returns-then-second
returns-then-second c = λ day.
    let near = IsDay-near c.args.second day in
    elim c.then-second.branch [
      | then-second-via-then-second w ↦ omega (arith, signed_arith, w.if-second, near.0)
      | then-second-via-else-second+then-second-gt-FARTHEST_SECOND w ↦
          omega (arith, signed_arith, w.if-second-gt-FARTHEST_SECOND, near.1)
    ]

pub returns : goal.returns
returns c =
    let day : to_z w32 (of_z w32 c.day_and_second.result.0) ≡ c.day_and_second.result.0 = search rules in
    rw (day, c.day_and_second.ensures.day, to_z-of_z w64 c.args.second c.ranges.second) at c.from_days_since_epoch.ensures
