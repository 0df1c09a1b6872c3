pub mod ReadingLemmas
pub mod NodeLemmas
pub mod OperandLemmas
pub mod SpotLemmas
