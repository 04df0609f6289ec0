-- Sums of a time of day and a duration: the date moves by a day at most.
use Rattle.std.specs.Prelude.{Bool, if◌then◌else◌, ℤ, pos, negsuc, int_rem}
use Rattle.calendar_values.specs.Clock.{nanos_per_day}
use Rattle.calendar_values.specs.declared.date_adjustment.DateAdjustment.{DateAdjustment}
use Rattle.calendar_values.specs.declared.date_adjustment.DateAdjustment.TheVariants.{Previous, Same, Next}

-- the days that the date moves by
abbrev pub adjustment_days : DateAdjustment → ℤ
adjustment_days Previous = negsuc 0
adjustment_days Same = pos 0
adjustment_days Next = pos 1

-- 1 if the date changes to the next day, and else 0
abbrev pub days_if_next : Bool → ℤ
days_if_next changes = if changes then pos 1 else pos 0

-- -1 if the date changes to the previous day, and else 0
abbrev pub days_if_previous : Bool → ℤ
days_if_previous changes = if changes then negsuc 0 else pos 0

-- the nanoseconds of a duration after its whole days, with the duration's sign
unfoldable pub subday_nanoseconds_of : ℤ → ℤ
subday_nanoseconds_of d = int_rem d (pos nanos_per_day)
