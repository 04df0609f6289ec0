-- Descriptions of well-known forms, and the date-times that have a text of RFC 2822.
use Rattle.std.specs.Prelude.{List, [], ◌∷◌, Bool, ◌&&◌, ◌==◌, ◌%◌, not, int_lt, ℤ, pos, unsigned_abs, IsTrue}
use Rattle.calendar_values.specs.Calendar.{year_of}
use Rattle.calendar_values.specs.WallClock.{wall_day}
use Rattle.offset_times.specs.Local.{Local}
use Rattle.format_descriptions.specs.Iso8601.{iso8601_items, iso8601_date_items, iso8601_time_items}
use Rattle.format_descriptions.specs.Known.{date_items, time_items, offset_items, fixed_items, fixed_items_at}
use Rattle.format_descriptions.specs.RoundTrips.{is_clear}
use Rattle.format_descriptions.specs.declared.item.Item.{Item}
use Rattle.format_descriptions.specs.declared.item.Item.TheVariants.{Byte, Part}
use Rattle.format_descriptions.specs.declared.component.Component.TheVariants.{Year, MonthName, Day, WeekdayName}
use Rattle.format_descriptions.specs.declared.component.Component.TheVariants.{Hour, Minute, Second, OffsetHour, OffsetMinute}
use Rattle.format_descriptions.specs.declared.modifiers.NameForm.TheVariants.{Short}
use Rattle.format_descriptions.specs.declared.modifiers.Padding.TheVariants.{Zero}
use Rattle.format_descriptions.specs.declared.modifiers.ReadCase.TheVariants.{Any}
use Rattle.format_descriptions.specs.declared.modifiers.Sign.TheVariants.{Automatic, Mandatory}
use Rattle.format_descriptions.specs.declared.modifiers.YearBase.TheVariants.{Calendar}
use Rattle.format_descriptions.specs.declared.modifiers.YearRange.TheVariants.{Standard}

-- RFC 2822 as it is written: `[weekday repr:short], [day] [month repr:short] [year] [hour]:[minute]:[second]`, a space, and then
-- `[offset_hour sign:mandatory][offset_minute]`
abbrev pub rfc2822_items : List Item
rfc2822_items =
    Part (WeekdayName Short Any) ∷ Byte 44 ∷ Byte 32 ∷ Part (Day Zero) ∷ Byte 32 ∷ Part (MonthName Short Any) ∷ Byte 32 ∷
    Part (Year Calendar Automatic Zero Standard) ∷ Byte 32 ∷ Part (Hour Zero) ∷ Byte 58 ∷ Part (Minute Zero) ∷ Byte 58 ∷ Part (Second Zero) ∷
    Byte 32 ∷ Part (OffsetHour Mandatory Zero) ∷ Part (OffsetMinute Zero) ∷ []

-- a year from 1900 to 9999
abbrev pub is_mail_year : ℤ → Bool
is_mail_year y = not (int_lt y (pos 1_900)) && int_lt y (pos 10_000)

-- the date-time has a text of RFC 2822: a year from 1900 to 9999, and an offset of whole minutes
abbrev pub has_rfc2822_text : Local → Bool
has_rfc2822_text at = is_mail_year (year_of (wall_day at.wall)) && unsigned_abs at.offset % 60 == 0

-- the well-known descriptions are clear: they read their own texts back
pub record WellKnownAreClear : Type 0 where
  pub date : IsTrue (is_clear date_items)
  pub time : IsTrue (is_clear time_items)
  pub offset : IsTrue (is_clear offset_items)
  pub fixed : IsTrue (is_clear fixed_items)
  pub fixed_at : IsTrue (is_clear fixed_items_at)
  pub rfc2822 : IsTrue (is_clear rfc2822_items)
  pub iso8601 : IsTrue (is_clear iso8601_items)
  pub iso8601_date : IsTrue (is_clear iso8601_date_items)
  pub iso8601_time : IsTrue (is_clear iso8601_time_items)
