pub mod Carries
pub mod InstantLemmas
pub mod Laws
pub mod Local
pub mod Texts
pub mod Words
pub mod Callers
