pub mod Texts
pub mod UnixTime
pub mod UnixTimeLemmas
pub mod Words
pub mod Callers
