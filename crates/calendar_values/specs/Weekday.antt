-- The days of the week: their numbers and their names.
use Rattle.std.specs.Prelude.{ℕ, List, codes}
use Rattle.calendar_values.specs.declared.weekday.Weekday.{Weekday}
use Rattle.calendar_values.specs.declared.weekday.Weekday.TheVariants.{Monday, Tuesday, Wednesday, Thursday, Friday, Saturday, Sunday}

-- the number of a day of the week, 0 for Monday
abbrev pub weekday_number : Weekday → ℕ
weekday_number Monday = 0
weekday_number Tuesday = 1
weekday_number Wednesday = 2
weekday_number Thursday = 3
weekday_number Friday = 4
weekday_number Saturday = 5
weekday_number Sunday = 6

-- the English names of the days of the week
abbrev pub weekday_name : Weekday → List ℕ
weekday_name Monday = codes "Monday"
weekday_name Tuesday = codes "Tuesday"
weekday_name Wednesday = codes "Wednesday"
weekday_name Thursday = codes "Thursday"
weekday_name Friday = codes "Friday"
weekday_name Saturday = codes "Saturday"
weekday_name Sunday = codes "Sunday"
