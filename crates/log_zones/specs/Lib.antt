pub mod Earliest
pub mod Instants
pub mod Showings
