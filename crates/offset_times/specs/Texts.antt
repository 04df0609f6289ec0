-- The text of a date-time with an offset.
use Rattle.std.specs.Prelude.{ℕ, List, ◌++◌, codes}
use Rattle.calendar_values.specs.Texts.{date_text, time_text, offset_text}
use Rattle.calendar_values.specs.WallClock.{wall_day, wall_time}
use Rattle.offset_times.specs.Local.{Local}

-- the date, a space, the time of day, a space, the offset
unfoldable pub offset_date_time_text : Local → List ℕ
offset_date_time_text at =
    date_text (wall_day at.wall) ++ codes " " ++ time_text (wall_time at.wall) ++ codes " " ++ offset_text at.offset
