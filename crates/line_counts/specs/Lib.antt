pub mod Counting
pub mod Counts
pub mod Laws
pub mod Progress
pub mod RowLaws
pub mod Stamps
pub mod Steps
pub mod Turns
