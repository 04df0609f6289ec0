pub mod EarliestLemmas
pub mod InstantLemmas
pub mod ShowingLemmas
