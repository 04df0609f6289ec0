-- The names of the parts that an error can name.
use Rattle.std.specs.Prelude.{◌≡◌, ℕ, Bool, List, [], ◌∷◌, codes, find, unwrap_or, nat_eq, refl}
use Rattle.std.specs.List.{list_any}
use Rattle.std.specs.Cmp.Lexicographic.{pointwise}
use Rattle.calendar_values.specs.declared.component_range.Part.{Part}
use Rattle.calendar_values.specs.declared.component_range.Part.TheVariants.{Year, Month, Day, Ordinal, Week, JulianDay, Hour, Minute, Second, Millisecond}
use Rattle.calendar_values.specs.declared.component_range.Part.TheVariants.{Microsecond, Nanosecond, Hours, Minutes, Seconds, OffsetSeconds, Timestamp}
use Rattle.calendar_values.specs.declared.component_range.Part.TheVariants.{Milliseconds, Microseconds, Nanoseconds}

abbrev pub part_name : Part → List ℕ
part_name Year = codes "year"
part_name Month = codes "month"
part_name Day = codes "day"
part_name Ordinal = codes "ordinal"
part_name Week = codes "week"
part_name JulianDay = codes "julian_day"
part_name Hour = codes "hour"
part_name Minute = codes "minute"
part_name Second = codes "second"
part_name Millisecond = codes "millisecond"
part_name Microsecond = codes "microsecond"
part_name Nanosecond = codes "nanosecond"
part_name Hours = codes "hours"
part_name Minutes = codes "minutes"
part_name Seconds = codes "seconds"
part_name OffsetSeconds = codes "offset_seconds"
part_name Timestamp = codes "timestamp"
part_name Milliseconds = codes "milliseconds"
part_name Microseconds = codes "microseconds"
part_name Nanoseconds = codes "nanoseconds"

-- all parts
abbrev pub all_parts : List Part
all_parts =
    Year ∷ Month ∷ Day ∷ Ordinal ∷ Week ∷ JulianDay ∷ Hour ∷ Minute ∷ Second ∷ Millisecond ∷ Microsecond ∷ Nanosecond ∷ Hours ∷ Minutes ∷ Seconds ∷
    OffsetSeconds ∷ Timestamp ∷ Milliseconds ∷ Microseconds ∷ Nanoseconds ∷ []

-- this is the name of the part
abbrev pub is_name_of : List ℕ → Part → Bool
is_name_of name part = pointwise nat_eq name (part_name part)

-- some part has this name
abbrev pub is_part_name : List ℕ → Bool
is_part_name name = list_any (is_name_of name) all_parts

-- the part of a name
abbrev pub part_named : List ℕ → Part
part_named name = unwrap_or (find (is_name_of name) all_parts) Year

pub part_named-part_name : (part : Part) → part_named (part_name part) ≡ part
part_named-part_name Year = refl
part_named-part_name Month = refl
part_named-part_name Day = refl
part_named-part_name Ordinal = refl
part_named-part_name Week = refl
part_named-part_name JulianDay = refl
part_named-part_name Hour = refl
part_named-part_name Minute = refl
part_named-part_name Second = refl
part_named-part_name Millisecond = refl
part_named-part_name Microsecond = refl
part_named-part_name Nanosecond = refl
part_named-part_name Hours = refl
part_named-part_name Minutes = refl
part_named-part_name Seconds = refl
part_named-part_name OffsetSeconds = refl
part_named-part_name Timestamp = refl
part_named-part_name Milliseconds = refl
part_named-part_name Microseconds = refl
part_named-part_name Nanoseconds = refl
