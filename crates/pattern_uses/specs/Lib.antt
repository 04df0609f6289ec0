pub mod Dates
pub mod FrontStamps
