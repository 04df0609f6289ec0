pub mod ChoiceLemmas
pub mod LawLemmas
pub mod PlaceLemmas
pub mod ShiftLemmas
pub mod TimesLemmas
