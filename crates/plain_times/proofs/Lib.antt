pub mod DateAndTimeLemmas
pub mod DaySumLemmas
pub mod WallClockLawLemmas
