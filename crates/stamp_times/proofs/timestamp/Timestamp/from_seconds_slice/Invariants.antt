use Rattle.std.proofs.Common.{◌≡◌, ◌≤◌, vec_len, vec_capacity, length, map, take}
use Rattle.utc_times.specs.UnixTime.{instant_of_second}
use Rattle.stamp_times.proofs.timestamp.Timestamp.from_seconds_slice.Given as goal

-- the seconds so far are made, and each that is left has room
abbrev pub invariant-loop-place : goal.invariant-loop-place
invariant-loop-place l = record {
  made : l.stamps.items ≡ map instant_of_second (take l.place l.seconds);
  count : vec_len l.stamps ≡ l.place;
  room : length l.seconds ≤ vec_capacity l.stamps;
}
