use Rattle.std.proofs.lemmas.Int.{to_z-of_z}
use Rattle.std.specs.Int.{w64}
use Rattle.utc_times.proofs.UnixLemmas.{IsWallClock-second, IsDay-second}
use Rattle.utc_times.proofs.utc_date_time.UtcDateTime.after_second.Goals as goal

pub returns-in-Some-clause-value : goal.returns-in-Some-clause-value
returns-in-Some-clause-value c =
    let same = to_z-of_z w64 c.args.second c.ranges.second in
    IsWallClock-second c.args.second _ _ _ _ (rw same at c.in-Some.ensures) c.requires (rw same at c.time_of_second.ensures) c.new.ensures

pub returns-in-None-clause-value : goal.returns-in-None-clause-value
returns-in-None-clause-value c =
    let same = to_z-of_z w64 c.args.second c.ranges.second in
    λ h. (rw same at c.in-None.ensures) (IsDay-second c.args.second c.args.nanosecond c.requires h)
