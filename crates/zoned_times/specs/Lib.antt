pub mod Callers
pub mod Choices
pub mod Gaps
pub mod Laws
pub mod Zoned
