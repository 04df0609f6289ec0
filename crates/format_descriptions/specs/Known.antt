-- Descriptions of known forms.
use Rattle.std.specs.Prelude.{List, [], ◌∷◌}
use Rattle.format_descriptions.specs.declared.item.Item.{Item}
use Rattle.format_descriptions.specs.declared.item.Item.TheVariants.{Byte, Part}
use Rattle.format_descriptions.specs.declared.component.Component.TheVariants.{Year, Month, Day, Hour, Minute, Second, Subsecond}
use Rattle.format_descriptions.specs.declared.component.Component.TheVariants.{OffsetHour, OffsetMinute, OffsetSecond}
use Rattle.format_descriptions.specs.declared.modifiers.Padding.TheVariants.{Zero, Bare}
use Rattle.format_descriptions.specs.declared.modifiers.Sign.TheVariants.{Automatic, Mandatory}
use Rattle.format_descriptions.specs.declared.modifiers.SubsecondDigits.TheVariants.{OneOrMore, Nine}
use Rattle.format_descriptions.specs.declared.modifiers.YearBase.TheVariants.{Calendar}
use Rattle.format_descriptions.specs.declared.modifiers.YearRange.TheVariants.{Extended}

-- `[year]-[month]-[day]`
abbrev pub date_items : List Item
date_items = Part (Year Calendar Automatic Zero Extended) ∷ Byte 45 ∷ Part (Month Zero) ∷ Byte 45 ∷ Part (Day Zero) ∷ []

-- `[hour padding:none]:[minute]:[second].[subsecond]`
abbrev pub time_items : List Item
time_items = Part (Hour Bare) ∷ Byte 58 ∷ Part (Minute Zero) ∷ Byte 58 ∷ Part (Second Zero) ∷ Byte 46 ∷ Part (Subsecond OneOrMore) ∷ []

-- `[year]-[month]-[day]T[hour]:[minute]:[second].[subsecond digits:9]Z`
abbrev pub fixed_items : List Item
fixed_items =
    Part (Year Calendar Automatic Zero Extended) ∷ Byte 45 ∷ Part (Month Zero) ∷ Byte 45 ∷ Part (Day Zero) ∷ Byte 84 ∷
    Part (Hour Zero) ∷ Byte 58 ∷ Part (Minute Zero) ∷ Byte 58 ∷ Part (Second Zero) ∷ Byte 46 ∷ Part (Subsecond Nine) ∷ Byte 90 ∷ []

-- `[year]-[month]-[day]T[hour]:[minute]:[second].[subsecond digits:9][offset_hour sign:mandatory]:[offset_minute]`
abbrev pub fixed_items_at : List Item
fixed_items_at =
    Part (Year Calendar Automatic Zero Extended) ∷ Byte 45 ∷ Part (Month Zero) ∷ Byte 45 ∷ Part (Day Zero) ∷ Byte 84 ∷
    Part (Hour Zero) ∷ Byte 58 ∷ Part (Minute Zero) ∷ Byte 58 ∷ Part (Second Zero) ∷ Byte 46 ∷ Part (Subsecond Nine) ∷
    Part (OffsetHour Mandatory Zero) ∷ Byte 58 ∷ Part (OffsetMinute Zero) ∷ []

-- `[offset_hour sign:mandatory]:[offset_minute]:[offset_second]`
abbrev pub offset_items : List Item
offset_items = Part (OffsetHour Mandatory Zero) ∷ Byte 58 ∷ Part (OffsetMinute Zero) ∷ Byte 58 ∷ Part (OffsetSecond Zero) ∷ []
