pub mod LocalFormLemmas
pub mod CutLemmas
pub mod PutLemmas
pub mod ReadingLemmas
pub mod FaultLemmas
pub mod FaultFormLemmas
pub mod FullTimeLemmas
