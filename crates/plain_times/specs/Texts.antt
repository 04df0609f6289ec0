-- The text of a date-time.
use Rattle.std.specs.Prelude.{ℕ, ℤ, List, ◌++◌, codes}
use Rattle.calendar_values.specs.Texts.{date_text, time_text}
use Rattle.calendar_values.specs.WallClock.{wall_day, wall_time}

-- the date, a space, the time of day
unfoldable pub plain_text : ℤ → List ℕ
plain_text w = date_text (wall_day w) ++ codes " " ++ time_text (wall_time w)
