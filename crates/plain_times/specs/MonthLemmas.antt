-- The rule sets of months of calendar_values, by their older names.
pub use Rattle.calendar_values.specs.MonthLemmas.{month_days, next_months}
