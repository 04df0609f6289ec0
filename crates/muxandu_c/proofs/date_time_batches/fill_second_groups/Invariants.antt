use Rattle.std.proofs.Common.{◌≡◌, ◌++◌, ◌≤◌, ◌-◌, length, take, drop}
use Rattle.muxandu_c.specs.Batches.{values_of, status_of_items}
use Rattle.muxandu_c.specs.Values.{second_of_date_time}
use Rattle.muxandu_c.proofs.date_time_batches.fill_second_groups.Given as goal

-- the values so far and those of the date-times that are left are the values of all, and what is behind them has not changed
abbrev pub invariant-groups : goal.invariant-groups
invariant-groups l = record {
  values : take l.place l.out ++ values_of second_of_date_time (drop l.place l.date_times) ≡ values_of second_of_date_time l.date_times;
  status : status_of_items second_of_date_time (drop l.place l.date_times) ≡ status_of_items second_of_date_time l.date_times;
  behind : drop l.place l.out ≡ drop l.place l.initial.out;
  len : length l.out ≡ length l.initial.out;
  within : l.place ≤ length l.date_times;
}

abbrev pub decreases-groups : goal.decreases-groups
decreases-groups l = length l.date_times - l.place
