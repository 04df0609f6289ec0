-- What is assumed for the next stamp.
use Rattle.std.specs.Prelude.{if◌then◌else◌, ℤ, pos, Option, Some, None, unwrap_or}
use Rattle.calendar_values.specs.Calendar.{month_of, year_of}
use Rattle.calendar_values.specs.Range.{is_outside}
use Rattle.calendar_values.specs.WallClock.{first_wall_clock, last_wall_clock, wall_day}
use Rattle.offset_times.specs.Local.{Local, local_at}
use Rattle.log_forms.specs.declared.instants.Assumed.{Assumed}

-- the year and the month of a date-time are assumed, if there is one
abbrev pub assumed_by : Assumed → Option Local → Assumed
assumed_by assumed None = assumed
assumed_by assumed (Some at) =
    record { offset = assumed.offset; year = Some (year_of (wall_day at.wall)); month = month_of (wall_day at.wall) }

-- an instant at an offset, if its wall clock there is in range
abbrev pub shown_if_any : Local → Option Local
shown_if_any at = if is_outside first_wall_clock last_wall_clock at.wall then None else Some at

-- what is assumed after a stamp, by the assumed year
abbrev pub assumed_then : Assumed → ℤ → Option ℤ → Assumed
assumed_then assumed last None = assumed
assumed_then assumed last (Some year) = assumed_by assumed (shown_if_any (local_at last (unwrap_or assumed.offset (pos 0))))

-- what is assumed after a stamp of this instant, if there was one
abbrev pub assumed_after : Assumed → Option ℤ → Assumed
assumed_after assumed None = assumed
assumed_after assumed (Some last) = assumed_then assumed last assumed.year
