pub mod DateTimes
pub mod Dates
pub mod MarchYears
pub mod MinuteTexts
pub mod Seconds
pub mod YearLanes
