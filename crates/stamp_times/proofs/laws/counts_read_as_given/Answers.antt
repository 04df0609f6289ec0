use Rattle.stamp_times.proofs.HeldInstantLemmas.{unix_seconds_of-instant_of_second, unix_milliseconds_of-instant_of_milliseconds}
use Rattle.stamp_times.proofs.HeldInstantLemmas.{unix_microseconds_of-instant_of_microseconds}
use Rattle.stamp_times.proofs.laws.counts_read_as_given.Goals as goal

pub returns : goal.returns
returns c = record {
  seconds = unix_seconds_of-instant_of_second;
  milliseconds = unix_milliseconds_of-instant_of_milliseconds;
  microseconds = unix_microseconds_of-instant_of_microseconds;
}
