use Rattle.std.proofs.Common.{◌≡◌, ◌++◌, ◌≤◌, ◌-◌, length, take, drop}
use Rattle.muxandu_c.specs.Batches.{values_of, status_of_items}
use Rattle.muxandu_c.specs.Values.{date_time_of_second}
use Rattle.muxandu_c.proofs.second_batches.fill_groups.Given as goal

-- the values so far and those of the seconds that are left are the values of all, and what is behind them has not changed
abbrev pub invariant-groups : goal.invariant-groups
invariant-groups l = record {
  values : take l.place l.out ++ values_of (date_time_of_second l.offset_seconds) (drop l.place l.seconds) ≡
      values_of (date_time_of_second l.offset_seconds) l.seconds;
  status : status_of_items (date_time_of_second l.offset_seconds) (drop l.place l.seconds) ≡
      status_of_items (date_time_of_second l.offset_seconds) l.seconds;
  behind : drop l.place l.out ≡ drop l.place l.initial.out;
  len : length l.out ≡ length l.initial.out;
  within : l.place ≤ length l.seconds;
}

abbrev pub decreases-groups : goal.decreases-groups
decreases-groups l = length l.seconds - l.place
