-- The numbers of reasons.
use Rattle.std.specs.Prelude.{ℕ}
use Rattle.format_descriptions.specs.declared.description_refusal.DescriptionFault.{DescriptionFault}
use Rattle.format_descriptions.specs.declared.description_refusal.DescriptionFault.TheVariants as description
use Rattle.format_descriptions.specs.declared.item_refusal.ItemFault.{ItemFault}
use Rattle.format_descriptions.specs.declared.item_refusal.ItemFault.TheVariants as item
use Rattle.format_descriptions.specs.declared.value_refusal.Field.{Field}
use Rattle.format_descriptions.specs.declared.value_refusal.Field.TheVariants as field

-- of a text that is no description
abbrev pub reason_of_fault : DescriptionFault → ℕ
reason_of_fault description.NoEnd = 1
reason_of_fault description.NoName = 2
reason_of_fault description.NestedBracket = 3
reason_of_fault description.UnknownComponent = 4
reason_of_fault description.UnknownModifier = 5
reason_of_fault description.WrongValue = 6
reason_of_fault description.MissingModifier = 7
reason_of_fault description.WrongEscape = 8
reason_of_fault description.NoGroup = 9
reason_of_fault description.WrongGroup = 10
reason_of_fault description.TooDeep = 11
reason_of_fault description.NoRoom = 12

-- of items that have no text
abbrev pub reason_of_item_fault : ItemFault → ℕ
reason_of_item_fault item.NoName = 13
reason_of_item_fault item.NoCount = 14
reason_of_item_fault item.NoEscape = 15
reason_of_item_fault item.NoFirst = 16
reason_of_item_fault item.PastEnd = 17
reason_of_item_fault item.TooDeep = 11
reason_of_item_fault item.NoRoom = 12

-- of a part of a value
abbrev pub reason_of_field : Field → ℕ
reason_of_field field.Year = 18
reason_of_field field.YearCentury = 19
reason_of_field field.YearLastTwo = 20
reason_of_field field.IsoYear = 21
reason_of_field field.IsoYearCentury = 22
reason_of_field field.IsoYearLastTwo = 23
reason_of_field field.Month = 24
reason_of_field field.Day = 25
reason_of_field field.Ordinal = 26
reason_of_field field.Weekday = 27
reason_of_field field.IsoWeek = 28
reason_of_field field.SundayWeek = 29
reason_of_field field.MondayWeek = 30
reason_of_field field.Hour = 31
reason_of_field field.Hour12 = 32
reason_of_field field.Period = 33
reason_of_field field.Minute = 34
reason_of_field field.Second = 35
reason_of_field field.Subsecond = 36
reason_of_field field.OffsetHour = 37
reason_of_field field.OffsetMinute = 38
reason_of_field field.OffsetSecond = 39
reason_of_field field.UnixSecond = 40
reason_of_field field.UnixMillisecond = 41
reason_of_field field.UnixMicrosecond = 42
reason_of_field field.UnixNanosecond = 43
