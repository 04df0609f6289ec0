pub mod IsoYearLemmas
pub mod IsoOffsetLemmas
pub mod IsoFormLemmas
pub mod IsoRangeLemmas
pub mod IsoValueLemmas
pub mod IsoFaultLemmas
pub mod IsoTailLemmas
pub mod IsoLongestLemmas
