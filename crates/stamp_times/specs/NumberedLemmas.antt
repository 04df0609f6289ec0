-- Each month and each day of the week is the one that has its number.
use Rattle.std.proofs.Common.{◌≡◌, refl}
use Rattle.calendar_values.specs.Month.{month_number}
use Rattle.calendar_values.specs.Weekday.{weekday_number}
use Rattle.calendar_values.specs.declared.month.Month.{Month}
use Rattle.calendar_values.specs.declared.month.Month.TheVariants.{January, February, March, April, May, June, July, August, September, October, November}
use Rattle.calendar_values.specs.declared.month.Month.TheVariants.{December}
use Rattle.calendar_values.specs.declared.weekday.Weekday.{Weekday}
use Rattle.calendar_values.specs.declared.weekday.Weekday.TheVariants.{Monday, Tuesday, Wednesday, Thursday, Friday, Saturday, Sunday}
use Rattle.stamp_times.specs.Numbered.{month_numbered, weekday_numbered}

pub month_numbered-number : (m : Month) → month_numbered (month_number m) ≡ m
unfolding month_numbered
month_numbered-number January = refl
month_numbered-number February = refl
month_numbered-number March = refl
month_numbered-number April = refl
month_numbered-number May = refl
month_numbered-number June = refl
month_numbered-number July = refl
month_numbered-number August = refl
month_numbered-number September = refl
month_numbered-number October = refl
month_numbered-number November = refl
month_numbered-number December = refl

pub weekday_numbered-number : (d : Weekday) → weekday_numbered (weekday_number d) ≡ d
unfolding weekday_numbered
weekday_numbered-number Monday = refl
weekday_numbered-number Tuesday = refl
weekday_numbered-number Wednesday = refl
weekday_numbered-number Thursday = refl
weekday_numbered-number Friday = refl
weekday_numbered-number Saturday = refl
weekday_numbered-number Sunday = refl
