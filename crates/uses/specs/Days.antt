-- Days of work, and the Mondays of ISO weeks.
use Rattle.std.specs.Prelude.{ℕ, ℤ, ◌==◌, if◌then◌else◌}
use Rattle.calendar_values.specs.Refusals.{IsIsoWeekDateOfRange}
use Rattle.calendar_values.specs.Weeks.{day_of_iso_week_date}

-- the days from a day of the week, 0 for Monday, to the next that is no Saturday and no Sunday
abbrev pub days_to_work : ℕ → ℕ
days_to_work weekday = if weekday == 4 then 3 else (if weekday == 5 then 2 else 1)

-- the ISO year has this week, and its Monday is in the range
abbrev pub IsIsoWeek : ℤ → ℕ → Type 0
IsIsoWeek y week = IsIsoWeekDateOfRange y week 0

-- the Monday of an ISO week
abbrev pub monday_of_iso_week : ℤ → ℕ → ℤ
monday_of_iso_week y week = day_of_iso_week_date y week 0
