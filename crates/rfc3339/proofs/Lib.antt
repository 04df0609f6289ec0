mod AbnfLemmas
mod AfterSecondLemmas
mod RecogniserLemmas
mod SuffixLemmas
mod GrammarLemmas
mod ByteLemmas
mod DigitOrderLemmas
mod DigitsInUtcLemmas
pub mod DigitTextLemmas
mod FaultLemmas
pub mod FaultFormLemmas
pub mod FrontLemmas
mod PairLemmas
mod PointLemmas
mod PutLemmas
mod RangeLemmas
pub mod LeapLemmas
pub mod LeapOrderLemmas
pub mod LengthLemmas
mod ShortestLemmas
pub mod TextOrderLemmas
pub mod UnixLemmas
mod WallLemmas
pub mod WriteLemmas
mod ZeroLemmas
mod ZoneLemmas
