use Rattle.std.proofs.Common.{◌≡◌, ◌++◌, ◌≤◌, ◌-◌, length, take, drop}
use Rattle.muxandu_c.specs.Batches.{values_of, status_of_items}
use Rattle.muxandu_c.specs.Values.{date_from_day}
use Rattle.muxandu_c.proofs.day_batches.fill_date_groups.Given as goal

-- the values so far and those of the days that are left are the values of all, and what is behind them has not changed
abbrev pub invariant-groups : goal.invariant-groups
invariant-groups l = record {
  values : take l.place l.out ++ values_of date_from_day (drop l.place l.days) ≡ values_of date_from_day l.days;
  status : status_of_items date_from_day (drop l.place l.days) ≡ status_of_items date_from_day l.days;
  behind : drop l.place l.out ≡ drop l.place l.initial.out;
  len : length l.out ≡ length l.initial.out;
  within : l.place ≤ length l.days;
}

abbrev pub decreases-groups : goal.decreases-groups
decreases-groups l = length l.days - l.place
