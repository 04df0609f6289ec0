-- The last day of a month, and months that are counted: the words of calendar_values, by their older names.
unfoldable pub use Rattle.calendar_values.specs.Months.{last_of_month}
pub use Rattle.calendar_values.specs.Months.{month_index}
