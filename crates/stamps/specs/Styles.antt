-- The texts of instants.
use Rattle.std.specs.Prelude.{ℕ, ◌%◌, ◌==◌, ◌&&◌, Bool, false, nat_lt, List, if◌then◌else◌, ℤ, pos, negsuc, unsigned_abs, Option, Some, None}
use Rattle.calendar_values.specs.Calendar.{year_of}
use Rattle.calendar_values.specs.WallClock.{wall_day}
use Rattle.offset_times.specs.Local.{shown_at, local_at}
use Rattle.rfc3339.specs.Texts.{fixed_text, fixed_text_at}
use Rattle.rfc3339.specs.UnixTexts.{unix_text}
use Rattle.stamps.specs.declared.task.Style.{Style}
use Rattle.stamps.specs.declared.task.Style.TheVariants.{Utc, At, Unix}

-- whether a year has four digits
abbrev pub has_four_digits : ℤ → Bool
has_four_digits (pos year) = nat_lt year 10_000
has_four_digits (negsuc year) = false

-- whether an offset is of whole minutes, less than a day
abbrev pub is_written : ℤ → Bool
is_written o = (unsigned_abs o % 60 == 0) && nat_lt (unsigned_abs o) 86_400

-- the text of an instant in a style, if it has one
unfoldable pub text_in : Style → ℤ → Option (List ℕ)
text_in Utc i = if has_four_digits (year_of (wall_day i)) then Some (fixed_text i) else None
text_in (At o) i =
    if has_four_digits (year_of (wall_day (shown_at i o))) && is_written o then Some (fixed_text_at (local_at i o)) else None
text_in Unix i = Some (unix_text i)
