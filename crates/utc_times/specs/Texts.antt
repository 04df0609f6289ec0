-- The text of an instant.
use Rattle.std.specs.Prelude.{ℕ, List, ◌++◌, codes, ℤ}
use Rattle.calendar_values.specs.Texts.{date_text, time_text}
use Rattle.calendar_values.specs.WallClock.{wall_day, wall_time}

-- the date in UTC, a space, the time of day, ` +00`
unfoldable pub utc_text : ℤ → List ℕ
utc_text instant = date_text (wall_day instant) ++ codes " " ++ time_text (wall_time instant) ++ codes " +00"
