pub mod CarryLemmas
pub mod ConversionLawLemmas
pub mod InstantOrderLemmas
pub mod LocalLemmas
pub mod NextYearLemmas
pub mod SumLemmas
